-- What the tests on a header say.
use mathlib.Core.Path.{◌≡◌}
use mathlib.Core.Bool.{Bool, true, ◌&&◌, and-eq-true_iff}
use lib.Dec.{leb}
use borrow.Author.Tests.{leb-true}
use Rattle.definition.specs.declared.format.Line.{Line}
use Rattle.definition.specs.Reader.{header_in_range, header_of}
use Rattle.book.specs.Read.{HeaderInRange}

-- what its tests say
pub in_range : (l : Line) → header_in_range l ≡ true → HeaderInRange (header_of l)
in_range l e =
    let t = tests (leb l.code 1) (leb 1 l.first) (leb l.first 64) (leb l.second 63) (leb l.third 99) (leb 1 l.fourth) (leb l.fourth 99) e in
    record {
      some_goals = leb-true 1 l.first t.0;
      few_goals = leb-true l.first 64 t.1.0;
      top_fits = leb-true l.second 63 t.1.1.0;
      limit_fits = leb-true l.third 99 t.1.1.1.0;
      divides = leb-true 1 l.fourth t.1.1.1.1.0;
      divisor_fits = leb-true l.fourth 99 t.1.1.1.1.1;
    }
  where
    tests : (a b c d e f g : Bool) → a && b && c && d && e && f && g ≡ true → (b ≡ true) × ((c ≡ true) × ((d ≡ true) × ((e ≡ true) × ((f ≡ true) × (g ≡ true)))))
    tests a b c d e f g h =
        let s6 = (and-eq-true_iff (a && b && c && d && e && f) g).0 h in
        let s5 = (and-eq-true_iff (a && b && c && d && e) f).0 s6.0 in
        let s4 = (and-eq-true_iff (a && b && c && d) e).0 s5.0 in
        let s3 = (and-eq-true_iff (a && b && c) d).0 s4.0 in
        let s2 = (and-eq-true_iff (a && b) c).0 s3.0 in
        (((and-eq-true_iff a b).0 s2.0).1, (s2.1, (s3.1, (s4.1, (s5.1, s6.1)))))

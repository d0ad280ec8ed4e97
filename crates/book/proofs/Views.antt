-- What a part's first line says of the part that was read, and a part read under other limits.
use mathlib.Core.Path.{◌≡◌, refl, sym, ap, ◌∙◌}
use mathlib.Core.Bool.{Bool, true, false, and-eq-true_iff}
use mathlib.Core.Option.{Option, none, some}
use mathlib.Core.List.{List, [], ◌∷◌}
use Prim.Native.Nat.{ℕ, zero, suc, ◌+◌, ◌≤◌, ◌<◌}
use native.Mathlib.Nat.{suc-add}
use native.Mathlib.Omega.{arith}
use lib.ListN.{length}
use lib.Dec.{eqb}
use borrow.Author.Tests.{ltb-true, leb-true, eqb-true}
use Rattle.definition.specs.declared.format.Line.{Line}
use Rattle.definition.specs.Paths.{kind_of}
use Rattle.definition.specs.Part.{Op, Pick, Part, Call, Node, UndecidedLine, Then, End}
use Rattle.definition.specs.Reader.{TakenPart, TakenParts, uses_first, read_parts, node_of, read_by_code, read_first, read_part}
use Rattle.book.specs.Grammar.{after_parts, call_fits, undecided_fits}
use Rattle.book.specs.declared.code.Op as kinds
use Rattle.book.specs.declared.code.Code.{Code}
use Rattle.book.specs.declared.code.Code.TheVariants as codes
use Rattle.book.specs.Codes.{op_of, code_of, count_below, parts_below}
use Rattle.book.proofs.Codes.{read_as, read_as_lem}
use Rattle.book.proofs.Sizes.{joined, after_joined}

pub never : {A B : Type 0} {b : B} → ◌≡◌ {A = Option B} none (some b) → A
never e = let z : ◌≡◌ {A = ℕ} 0 1 = cc in absurd (omega arith)

pub of_some : {B : Type 0} {a b : B} → some a ≡ some b → a ≡ b
of_some e = cc

-- ---- n parts are one part and the others
pub record First (f : List Line → Option TakenPart) (n : ℕ) (ls : List Line) (t : TakenParts) : Type 0 where
  pub one : TakenPart
  pub others : TakenParts
  pub one_is : f ls ≡ some one
  pub others_are : read_parts f n one.rest ≡ some others
  pub all_are : record { parts = Then one.part others.parts; rest = others.rest } ≡ t

abbrev first_and : (List Line → Option TakenPart) → ℕ → Option TakenPart → Option TakenParts
first_and f n x = elim x [ none ↦ none | some p ↦ joined p (read_parts f n p.rest) ]

pub uncons : (f : List Line → Option TakenPart) (n : ℕ) (ls : List Line) (t : TakenParts) → read_parts f (suc n) ls ≡ some t → First f n ls t
uncons f n ls t e = go (f ls) refl e
  where
    with_others : (p : TakenPart) → f ls ≡ some p → (x : Option TakenParts) → read_parts f n p.rest ≡ x → joined p x ≡ some t → First f n ls t
    with_others p a none b q = never q
    with_others p a (some ps) b q = record { one = p; others = ps; one_is = a; others_are = b; all_are = of_some q }

    go : (x : Option TakenPart) → f ls ≡ x → first_and f n x ≡ some t → First f n ls t
    go none a q = never q
    go (some p) a q = with_others p a (read_parts f n p.rest) refl q

pub cons : (f : List Line → Option TakenPart) (n : ℕ) (ls : List Line) (p : TakenPart) (ps : TakenParts) → f ls ≡ some p → read_parts f n p.rest ≡ some ps → read_parts f (suc n) ls ≡ some (record { parts = Then p.part ps.parts; rest = ps.rest })
cons f n ls p ps a b = ap (first_and f n) a ∙ ap (joined p) b

-- ---- a part by its line's code
abbrev pub call_taken : Line → List Line → TakenPart
call_taken l ls = record { part = Call l.first (kind_of l.second) (eqb l.third 1); rest = ls }

abbrev pub undecided_taken : List Line → TakenPart
undecided_taken ls = record { part = UndecidedLine; rest = ls }

pub data View (goals : ℕ) (p : Bool) (inner : Bool → List Line → Option TakenPart) (l : Line) (ls : List Line) (t : TakenPart) : Type 0 where
  call : code_of l.code ≡ codes.Call → call_fits goals l ≡ true → call_taken l ls ≡ t → View goals p inner l ls t
  group : (op : kinds.Op) → code_of l.code ≡ codes.Group op → uses_first l ≡ true → (ps : TakenParts)
      → read_parts (inner p) l.first ls ≡ some ps → record { part = Node (op_of op) ps.parts; rest = ps.rest } ≡ t
      → View goals p inner l ls t
  pick : code_of l.code ≡ codes.Pick → uses_first l ≡ true → p ≡ false → (ps : TakenParts)
      → read_parts (inner true) l.first ls ≡ some ps → record { part = Node Pick ps.parts; rest = ps.rest } ≡ t
      → View goals p inner l ls t
  undecided : code_of l.code ≡ codes.Undecided → undecided_fits l ≡ true → undecided_taken ls ≡ t
      → View goals p inner l ls t

-- what the tests of a line that is the whole part say
pub call_fits_lem : (goals : ℕ) (l : Line) → call_fits goals l ≡ true → (l.first < goals) × (l.second ≤ 3) × (l.third ≤ 1) × (l.fourth ≡ 0)
call_fits_lem goals l e =
    let d = (and-eq-true_iff _ _).0 e in
    let c = (and-eq-true_iff _ _).0 d.0 in
    let b = (and-eq-true_iff _ _).0 c.0 in
    (ltb-true _ _ b.0, leb-true _ _ b.1, leb-true _ _ c.1, eqb-true _ _ d.1)

pub undecided_fits_lem : (l : Line) → undecided_fits l ≡ true → (l.first ≡ 0) × (l.second ≡ 0) × (l.third ≡ 0) × (l.fourth ≡ 0)
undecided_fits_lem l e =
    let d = (and-eq-true_iff _ _).0 e in
    let c = (and-eq-true_iff _ _).0 d.0 in
    let b = (and-eq-true_iff _ _).0 c.0 in
    (eqb-true _ _ b.0, eqb-true _ _ b.1, eqb-true _ _ c.1, eqb-true _ _ d.1)

abbrev taken_if : Bool → TakenPart → Option TakenPart
taken_if b t = elim b [ true ↦ some t | false ↦ none ]

abbrev node_if : Op → Bool → Option TakenParts → Option TakenPart
node_if op b x = elim b [ true ↦ node_of op x | false ↦ none ]

abbrev pick_if : Bool → Bool → Option TakenParts → Option TakenPart
pick_if q b x = elim q [ true ↦ none | false ↦ node_if Pick b x ]

module _ (goals : ℕ) (p : Bool) (inner : Bool → List Line → Option TakenPart) (l : Line) (ls : List Line) (t : TakenPart) where
  leaf : (b : Bool) (u : TakenPart) → taken_if b u ≡ some t → (b ≡ true) × (u ≡ t)
  leaf true u e = (refl, of_some e)
  leaf false u e = never e

  record NodeOf (op : Op) (b : Bool) (x : Option TakenParts) : Type 0 where
    fits : b ≡ true
    parts : TakenParts
    read : x ≡ some parts
    is : record { part = Node op parts.parts; rest = parts.rest } ≡ t

  node : (op : Op) (b : Bool) (x : Option TakenParts) → node_if op b x ≡ some t → NodeOf op b x
  node op true none e = never e
  node op true (some ps) e = record { fits = refl; parts = ps; read = refl; is = of_some e }
  node op false x e = never e

  outside : (b : Bool) (x : Option TakenParts) (q : Bool) → pick_if q b x ≡ some t → (q ≡ false) × NodeOf Pick b x
  outside b x true e = never e
  outside b x false e = (refl, node Pick b x e)

  pub view : read_by_code goals l.code p inner l ls ≡ some t → View goals p inner l ls t
  view e = go (code_of l.code) refl (sym (read_as_lem goals p inner l ls l.code) ∙ e)
    where
      go : (k : Code) → code_of l.code ≡ k → read_as goals p inner l ls k ≡ some t → View goals p inner l ls t
      go codes.Goal k e = never e
      go codes.Call k e = let v = leaf (call_fits goals l) (call_taken l ls) e in call k v.0 v.1
      go (codes.Group op) k e =
          let v = node (op_of op) (uses_first l) (read_parts (inner p) l.first ls) e in
          group op k v.fits v.parts v.read v.is
      go codes.Pick k e =
          let v = outside (uses_first l) (read_parts (inner true) l.first ls) p e in
          pick k v.1.fits v.0 v.1.parts v.1.read v.1.is
      go codes.Undecided k e = let v = leaf (undecided_fits l) (undecided_taken ls) e in undecided k v.0 v.1
      go codes.Unknown k e = never e

  at_code : {k : Code} → code_of l.code ≡ k → read_by_code goals l.code p inner l ls ≡ read_as goals p inner l ls k
  at_code e = read_as_lem goals p inner l ls l.code ∙ ap (λ (c : Code). read_as goals p inner l ls c) e

  pub unview : View goals p inner l ls t → read_by_code goals l.code p inner l ls ≡ some t
  unview (call k f e) = at_code k ∙ ap (λ (b : Bool). taken_if b (call_taken l ls)) f ∙ ap some e
  unview (group op k f ps r e) =
      at_code k ∙ ap (λ (b : Bool). node_if (op_of op) b (read_parts (inner p) l.first ls)) f
      ∙ ap (node_of (op_of op)) r ∙ ap some e
  unview (pick k f o ps r e) =
      at_code k ∙ ap (λ (q : Bool). pick_if q (uses_first l) (read_parts (inner true) l.first ls)) o
      ∙ ap (λ (b : Bool). node_if Pick b (read_parts (inner true) l.first ls)) f ∙ ap (node_of Pick) r ∙ ap some e
  unview (undecided k f e) = at_code k ∙ ap (λ (b : Bool). taken_if b (undecided_taken ls)) f ∙ ap some e

-- ---- what is read stays read under looser limits
abbrev pub Within : (List Line → Option TakenPart) → (List Line → Option TakenPart) → Type 0
Within f g = (ls : List Line) (t : TakenPart) → f ls ≡ some t → g ls ≡ some t

pub parts_within : (f g : List Line → Option TakenPart) → Within f g → (n : ℕ) (ls : List Line) (t : TakenParts) → read_parts f n ls ≡ some t → read_parts g n ls ≡ some t
parts_within f g w zero ls t e = e
parts_within f g w (suc n) ls t e =
    let o = uncons f n ls t e in
    cons g n ls o.one o.others (w ls o.one o.one_is) (parts_within f g w n o.one.rest o.others o.others_are) ∙ ap some o.all_are

-- outside a pick is looser than inside
abbrev pub Looser : Bool → Bool → Type 0
Looser true q = Unit {0}
Looser false false = Unit {0}
Looser false true = ⊥

pub looser_refl : (p : Bool) → Looser p p
looser_refl true = tt
looser_refl false = tt

looser_false : (p q : Bool) → p ≡ false → Looser p q → q ≡ false
looser_false true q e h = let z : ◌≡◌ {A = ℕ} 0 1 = cc in absurd (omega arith)
looser_false false false e h = refl
looser_false false true e h = absurd h

module _ (goals : ℕ) (f g : Bool → List Line → Option TakenPart) (w : (p q : Bool) → Looser p q → Within (f p) (g q)) where
  by_code : (p q : Bool) → Looser p q → (l : Line) (ls : List Line) (t : TakenPart) → read_by_code goals l.code p f l ls ≡ some t → read_by_code goals l.code q g l ls ≡ some t
  by_code p q h l ls t e = unview goals q g l ls t (go (view goals p f l ls t e))
    where
      go : View goals p f l ls t → View goals q g l ls t
      go (call k a e) = call k a e
      go (group op k a ps r e) = group op k a ps (parts_within (f p) (g q) (w p q h) l.first ls ps r) e
      go (pick k a o ps r e) = pick k a (looser_false p q o h) ps (parts_within (f true) (g true) (w true true tt) l.first ls ps r) e
      go (undecided k a e) = undecided k a e

  by_first : (p q : Bool) → Looser p q → Within (read_first goals p f) (read_first goals q g)
  by_first p q h [] t e = never e
  by_first p q h (l ∷ ls) t e = by_code p q h l ls t e

pub part_within : (goals n m : ℕ) → n ≤ m → (p q : Bool) → Looser p q → Within (read_part goals n p) (read_part goals m q)
part_within goals zero m h p q lo ls t e = never e
part_within goals (suc n) zero h p q lo ls t e = absurd (omega arith)
part_within goals (suc n) (suc m) h p q lo ls t e =
    by_first goals (read_part goals n) (read_part goals m) (λ a b ab. part_within goals n m (omega arith) a b ab) p q lo ls t e

-- ---- a part takes a line at least
abbrev pub Shrinks : (List Line → Option TakenPart) → Type 0
Shrinks f = (ls : List Line) (t : TakenPart) → f ls ≡ some t → length t.rest < length ls

pub parts_room : (f : List Line → Option TakenPart) → Shrinks f → (n : ℕ) (ls : List Line) (t : TakenParts) → read_parts f n ls ≡ some t → n + length t.rest ≤ length ls
parts_room f s zero ls t e = let r : length t.rest ≡ length ls = ap (λ (x : TakenParts). length x.rest) (sym (of_some e)) in omega arith
parts_room f s (suc n) ls t e =
    let o = uncons f n ls t e in
    let a = s ls o.one o.one_is in
    let b = parts_room f s n o.one.rest o.others o.others_are in
    let r : length t.rest ≡ length o.others.rest = ap (λ (x : TakenParts). length x.rest) (sym o.all_are) in
    omega arith

by_first_shrinks : (goals : ℕ) (f : Bool → List Line → Option TakenPart) → ((p : Bool) → Shrinks (f p)) → (p : Bool) → Shrinks (read_first goals p f)
by_first_shrinks goals f s p [] t e = never e
by_first_shrinks goals f s p (l ∷ ls) t e = go (view goals p f l ls t e)
  where
    rest_of : {a : TakenPart} → a ≡ t → length a.rest ≡ length t.rest
    rest_of q = ap (λ (x : TakenPart). length x.rest) q

    parts : (q : Bool) (ps : TakenParts) (part : Part) → read_parts (f q) l.first ls ≡ some ps → record { part = part; rest = ps.rest } ≡ t → length t.rest < length (l ∷ ls)
    parts q ps part r e = let a = parts_room (f q) (s q) l.first ls ps r in let b = rest_of e in omega arith

    go : View goals p f l ls t → length t.rest < length (l ∷ ls)
    go (call k a e) = let b = rest_of e in omega arith
    go (group op k a ps r e) = parts p ps _ r e
    go (pick k a o ps r e) = parts true ps _ r e
    go (undecided k a e) = let b = rest_of e in omega arith

pub part_shrinks : (goals n : ℕ) (p : Bool) → Shrinks (read_part goals n p)
part_shrinks goals zero p ls t e = never e
part_shrinks goals (suc n) p ls t e = by_first_shrinks goals (read_part goals n) (λ q. part_shrinks goals n q) p ls t e

-- ---- a parts and then b parts
pub parts_add : (f : List Line → Option TakenPart) (a b : ℕ) (ls : List Line) (t : TakenParts) → read_parts f a ls ≡ some t → after_parts (read_parts f (a + b) ls) ≡ after_parts (read_parts f b t.rest)
parts_add f zero b ls t e =
    let z : zero + b ≡ b = omega arith in
    ap (λ (n : ℕ). after_parts (read_parts f n ls)) z ∙ ap (λ (x : TakenParts). after_parts (read_parts f b x.rest)) (of_some e)
parts_add f (suc a) b ls t e =
    let o = uncons f a ls t e in
    rw suc-add (ap (λ (x : Option TakenPart). after_parts (first_and f (a + b) x)) o.one_is ∙ after_joined o.one (read_parts f (a + b) o.one.rest))
    ∙ parts_add f a b o.one.rest o.others o.others_are
    ∙ ap (λ (x : TakenParts). after_parts (read_parts f b x.rest)) o.all_are

-- ---- the view that a code leaves
pub record Noded (op : Op) (f : List Line → Option TakenPart) (n : ℕ) (ls : List Line) (t : TakenPart) : Type 0 where
  pub taken : TakenParts
  pub read : read_parts f n ls ≡ some taken
  pub is : record { part = Node op taken.parts; rest = taken.rest } ≡ t

module _ {goals : ℕ} {p : Bool} {inner : Bool → List Line → Option TakenPart} {l : Line} {ls : List Line} {t : TakenPart} where
  pub as_call : View goals p inner l ls t → code_of l.code ≡ codes.Call
      → (call_fits goals l ≡ true) × (call_taken l ls ≡ t)
  as_call (call k f e) c = (f, e)
  as_call (group op k f ps r e) c = let z : ◌≡◌ {A = ℕ} 0 1 = cc in absurd (omega arith)
  as_call (pick k f o ps r e) c = let z : ◌≡◌ {A = ℕ} 0 1 = cc in absurd (omega arith)
  as_call (undecided k f e) c = let z : ◌≡◌ {A = ℕ} 0 1 = cc in absurd (omega arith)

  pub as_group : View goals p inner l ls t → (op : kinds.Op) → code_of l.code ≡ codes.Group op
      → Noded (op_of op) (inner p) l.first ls t
  as_group (call k f e) op c = let z : ◌≡◌ {A = ℕ} 0 1 = cc in absurd (omega arith)
  as_group (group o k f ps r e) op c =
      let same : op ≡ o = cc in
      record {
        taken = ps;
        read = r;
        is = ap (λ (x : kinds.Op). record { part = Node (op_of x) ps.parts; rest = ps.rest }) same ∙ e;
      }
  as_group (pick k f o ps r e) op c = let z : ◌≡◌ {A = ℕ} 0 1 = cc in absurd (omega arith)
  as_group (undecided k f e) op c = let z : ◌≡◌ {A = ℕ} 0 1 = cc in absurd (omega arith)

  pub as_pick : View goals p inner l ls t → code_of l.code ≡ codes.Pick
      → (p ≡ false) × Noded Pick (inner true) l.first ls t
  as_pick (call k f e) c = let z : ◌≡◌ {A = ℕ} 0 1 = cc in absurd (omega arith)
  as_pick (group op k f ps r e) c = let z : ◌≡◌ {A = ℕ} 0 1 = cc in absurd (omega arith)
  as_pick (pick k f o ps r e) c = (o, record { taken = ps; read = r; is = e })
  as_pick (undecided k f e) c = let z : ◌≡◌ {A = ℕ} 0 1 = cc in absurd (omega arith)

  pub as_undecided : View goals p inner l ls t → code_of l.code ≡ codes.Undecided → undecided_taken ls ≡ t
  as_undecided (call k f e) c = let z : ◌≡◌ {A = ℕ} 0 1 = cc in absurd (omega arith)
  as_undecided (group op k f ps r e) c = let z : ◌≡◌ {A = ℕ} 0 1 = cc in absurd (omega arith)
  as_undecided (pick k f o ps r e) c = let z : ◌≡◌ {A = ℕ} 0 1 = cc in absurd (omega arith)
  as_undecided (undecided k f e) c = e

  -- a part's first line is no goal's, and its code is known
  pub not_goal : View goals p inner l ls t → code_of l.code ≡ codes.Goal → ⊥
  not_goal (call k f e) c = let z : ◌≡◌ {A = ℕ} 0 1 = cc in absurd (omega arith)
  not_goal (group op k f ps r e) c = let z : ◌≡◌ {A = ℕ} 0 1 = cc in absurd (omega arith)
  not_goal (pick k f o ps r e) c = let z : ◌≡◌ {A = ℕ} 0 1 = cc in absurd (omega arith)
  not_goal (undecided k f e) c = let z : ◌≡◌ {A = ℕ} 0 1 = cc in absurd (omega arith)

  pub not_unknown : View goals p inner l ls t → code_of l.code ≡ codes.Unknown → ⊥
  not_unknown (call k f e) c = let z : ◌≡◌ {A = ℕ} 0 1 = cc in absurd (omega arith)
  not_unknown (group op k f ps r e) c = let z : ◌≡◌ {A = ℕ} 0 1 = cc in absurd (omega arith)
  not_unknown (pick k f o ps r e) c = let z : ◌≡◌ {A = ℕ} 0 1 = cc in absurd (omega arith)
  not_unknown (undecided k f e) c = let z : ◌≡◌ {A = ℕ} 0 1 = cc in absurd (omega arith)

-- ---- the parts below the first line, whatever it is
pub record Below (inner : Bool → List Line → Option TakenPart) (l : Line) (ls : List Line) (t : TakenPart) : Type 0 where
  pub inside : Bool
  pub taken : TakenParts
  pub read : read_parts (inner inside) (parts_below l) ls ≡ some taken
  pub rest : taken.rest ≡ t.rest

below_as : (l : Line) {k : Code} → code_of l.code ≡ k → parts_below l ≡ count_below k l.first
below_as l e = ap (λ (c : Code). count_below c l.first) e

module _ (inner : Bool → List Line → Option TakenPart) (l : Line) (ls : List Line) (t : TakenPart) where
  leaf_below : (p : Part) → parts_below l ≡ 0 → record { part = p; rest = ls } ≡ t → Below inner l ls t
  leaf_below p z e =
      record {
        inside = true;
        taken = record { parts = End; rest = ls };
        read = ap (λ (n : ℕ). read_parts (inner true) n ls) z;
        rest = ap (λ (x : TakenPart). x.rest) e;
      }

  node_below : (p : Part) (q : Bool) (ps : TakenParts) → parts_below l ≡ l.first → read_parts (inner q) l.first ls ≡ some ps → record { part = p; rest = ps.rest } ≡ t → Below inner l ls t
  node_below p q ps n r e =
      record { inside = q; taken = ps; read = ap (λ (m : ℕ). read_parts (inner q) m ls) n ∙ r; rest = ap (λ (x : TakenPart). x.rest) e }

  pub below_of : (goals : ℕ) (p : Bool) → View goals p inner l ls t → Below inner l ls t
  below_of goals p (call k f e) = leaf_below _ (below_as l k) e
  below_of goals p (group op k f ps r e) = node_below _ p ps (below_as l k) r e
  below_of goals p (pick k f o ps r e) = node_below _ true ps (below_as l k) r e
  below_of goals p (undecided k f e) = leaf_below _ (below_as l k) e

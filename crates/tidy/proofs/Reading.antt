-- A part's first line: a node with parts below it, or a line that is the whole part.
use mathlib.Core.Bool.{Bool, false, true}
use mathlib.Core.List.{List, [], ◌∷◌}
use mathlib.Core.Option.{Option, some}
use mathlib.Core.Path.{◌∙◌, ◌≡◌, ap, refl, sym}
use Prim.Native.Nat.{◌<◌, ◌≤◌, suc, zero, ℕ}
use native.Mathlib.Omega.{arith}
use lib.Dec.{eqb}
use lib.ListN.{length}
use Rattle.definition.specs.Part.{Call, Node, Op, Pick, UndecidedLine}
use Rattle.definition.specs.Paths.{kind_number, kind_of}
use Rattle.definition.specs.Reader.{TakenPart, TakenParts, read_parts}
use Rattle.definition.specs.declared.format.Line.{Line}
use Rattle.soundness.proofs.Logic.{clash}
use Rattle.book.specs.declared.code.Code.{Code}
use Rattle.book.specs.declared.code.Code.TheVariants as codes
use Rattle.book.specs.declared.code.Op.TheVariants as groups
use Rattle.book.specs.Codes.{code_of, op_of}
use Rattle.book.specs.Grammar.{call_fits, undecided_fits}
use Rattle.book.proofs.Codes.{code_number_lem, code_number}
use Rattle.book.proofs.Views.{View, call, call_fits_lem, group, never, pick, undecided, undecided_fits_lem}
use Rattle.book.proofs.Walk.{has_line}
use Rattle.tidy.specs.Rules.{is_list}
use Rattle.tidy.specs.Tidy.{tidy_part}
use Rattle.tidy.specs.Write.{flag, op_code, part_lines}
use Rattle.tidy.specs.Engine.{StartsWithin}
use Rattle.book.specs.Codes.{is_group, is_node}

-- ---- the node that a code says
abbrev pub node_op : Code → Op
node_op codes.Goal = Pick
node_op codes.Call = Pick
node_op (codes.Group op) = op_of op
node_op codes.Pick = Pick
node_op codes.Undecided = Pick
node_op codes.Unknown = Pick

abbrev pub op_at : ℕ → Op
op_at code = node_op (code_of code)

op_number : (c : Code) → is_node c ≡ true → op_code (node_op c) ≡ code_number c
op_number codes.Goal e = clash (cc)
op_number codes.Call e = clash (cc)
op_number (codes.Group groups.All) e = refl
op_number (codes.Group groups.Any) e = refl
op_number codes.Pick e = refl
op_number codes.Undecided e = clash (cc)
op_number codes.Unknown e = clash (cc)

pub op_code_lem : (n : ℕ) → is_node (code_of n) ≡ true → op_code (op_at n) ≡ n
op_code_lem n e = op_number (code_of n) e ∙ code_number_lem n (λ u. clash (cc))

is_group_lem : (c : Code) → is_group c ≡ is_list (node_op c)
is_group_lem codes.Goal = refl
is_group_lem codes.Call = refl
is_group_lem (codes.Group groups.All) = refl
is_group_lem (codes.Group groups.Any) = refl
is_group_lem codes.Pick = refl
is_group_lem codes.Undecided = refl
is_group_lem codes.Unknown = refl

pub group_list : (n : ℕ) → is_group (code_of n) ≡ is_list (op_at n)
group_list n = is_group_lem (code_of n)

-- ---- the numbers of a line that is a part
kind_number_lem : (n : ℕ) → n ≤ 3 → kind_number (kind_of n) ≡ n
kind_number_lem zero l = refl
kind_number_lem (suc zero) l = refl
kind_number_lem (suc (suc zero)) l = refl
kind_number_lem (suc (suc (suc zero))) l = refl
kind_number_lem (suc (suc (suc (suc n)))) l = absurd (omega arith)

pub flag_number : (n : ℕ) → n ≤ 1 → flag (eqb n 1) ≡ n
flag_number zero l = refl
flag_number (suc zero) l = refl
flag_number (suc (suc n)) l = absurd (omega arith)

call_line : (goals : ℕ) (l : Line) → code_of l.code ≡ codes.Call → call_fits goals l ≡ true
    → part_lines (Call l.first (kind_of l.second) (eqb l.third 1)) ≡ l ∷ []
call_line goals l k f =
    let h = call_fits_lem goals l f in
    λ i.
    record {
      code = (sym (ap code_number k) ∙ code_number_lem l.code (λ u. clash (cc))) i;
      first = l.first;
      second = kind_number_lem l.second h.1 i;
      third = flag_number l.third h.2 i;
      fourth = sym h.3 i;
    } ∷ []

undecided_line : (l : Line) → code_of l.code ≡ codes.Undecided → undecided_fits l ≡ true → part_lines UndecidedLine ≡ l ∷ []
undecided_line l k f =
    let h = undecided_fits_lem l f in
    λ i.
    record {
      code = (sym (ap code_number k) ∙ code_number_lem l.code (λ u. clash (cc))) i;
      first = sym h.0 i;
      second = sym h.1 i;
      third = sym h.2 i;
      fourth = sym h.3 i;
    } ∷ []

-- ---- a node's parts
pub record NodeRead (inner : Bool → List Line → Option TakenPart) (l : Line) (ls : List Line) (t : TakenPart) : Type 0 where
  pub inside : Bool
  pub parts : TakenParts
  pub read : read_parts (inner inside) l.first ls ≡ some parts
  pub is : record { part = Node (op_at l.code) parts.parts; rest = parts.rest } ≡ t

module _ {inner : Bool → List Line → Option TakenPart} {l : Line} {ls : List Line} {t : TakenPart} where
  as_node : (op : Op) (c : Code) → code_of l.code ≡ c → node_op c ≡ op → (b : Bool) (ps : TakenParts)
      → read_parts (inner b) l.first ls ≡ some ps → record { part = Node op ps.parts; rest = ps.rest } ≡ t
      → NodeRead inner l ls t
  as_node op c k o b ps r e =
      record {
        inside = b;
        parts = ps;
        read = r;
        is = ap (λ x. record { part = Node x ps.parts; rest = ps.rest }) (ap node_op k ∙ o) ∙ e;
      }

  pub node_read : {goals : ℕ} {p : Bool} → View goals p inner l ls t → is_node (code_of l.code) ≡ true → NodeRead inner l ls t
  node_read (call k f e) n = clash (cc)
  node_read {goals} {p} (group op k f ps r e) n = as_node (op_of op) (codes.Group op) k refl p ps r e
  node_read (pick k f o ps r e) n = as_node Pick codes.Pick k refl true ps r e
  node_read (undecided k f e) n = clash (cc)

  pub leaf_read : {goals : ℕ} {p : Bool} → View goals p inner l ls t → is_node (code_of l.code) ≡ false
      → (part_lines (tidy_part t.part) ≡ l ∷ []) × (t.rest ≡ ls)
  leaf_read {goals} {p} (call k f e) n =
      (ap (λ (x : TakenPart). part_lines (tidy_part x.part)) (sym e) ∙ call_line goals l k f, ap (λ (x : TakenPart). x.rest) (sym e))
  leaf_read (group op k f ps r e) n = clash (cc)
  leaf_read (pick k f o ps r e) n = clash (cc)
  leaf_read (undecided k f e) n =
      (ap (λ (x : TakenPart). part_lines (tidy_part x.part)) (sym e) ∙ undecided_line l k f, ap (λ (x : TakenPart). x.rest) (sym e))

-- ---- a part of some book
pub starts_line : (nest : ℕ) (s : List ℕ) → StartsWithin nest s → 16 ≤ length s
starts_line nest s w = has_line w.goals w.in_pick s w.taken nest w.reads

pub starts_nest : (nest : ℕ) (s : List ℕ) → StartsWithin nest s → 0 < nest
starts_nest zero s w = never w.reads
starts_nest (suc n) s w = omega arith

-- What one item more does to the cells.
use Rattle.std.proofs.Common.{◌≡◌, ℕ, suc, ◌+◌, ◌<◌, ◌≤◌, Bool, cond, eqb, ◌≢◌, List, [], ◌∷◌, length, set, sym, refl, ap, ◌∙◌, ⊎_elim, suc-le-suc, arith, length-set, get_or-set_other, get_or-set_same}
use Rattle.std.proofs.lemmas.List.{get_or_past}
use Rattle.std.proofs.lemmas.List.Sums.{sum_by-set, sum_by-cons, count_by-le-length}
use Rattle.std.proofs.lemmas.Bool.{cases_eq, cases_lt, ne_eqb}
use Rattle.compare.specs.Cell.{blank, AllBlank}
use Rattle.compare.specs.Search.{at, is_seen, marks, placed, marked}
use Rattle.compare.specs.declared.cell.Cell.{Cell}

-- two cells that hold the same item, whatever their marks
pub record Same (c d : Cell) : Type 0 where
  pub left : c.left ≡ d.left
  pub right : c.right ≡ d.right
  pub parent : c.parent ≡ d.parent
  pub step : c.step ≡ d.step

-- ds is cs with the item c at `tail` and the mark at p
pub record Grown (cs ds : List Cell) (tail : ℕ) (c : Cell) (p : ℕ) : Type 0 where
  pub kept : (k : ℕ) → k ≢ tail → Same (at ds k) (at cs k)
  pub new : Same (at ds tail) c
  pub seen : (q : ℕ) → q ≢ p → (at ds q).seen ≡ (at cs q).seen
  pub here : (at ds p).seen ≡ 1
  pub count : marks ds ≡ marks cs + 1

same_of : {c d : Cell} → c ≡ d → Same c d
same_of e = record { left = ap (λ (x : Cell). x.left) e; right = ap (λ (x : Cell). x.right) e; parent = ap (λ (x : Cell). x.parent) e; step = ap (λ (x : Cell). x.step) e }

same_then : {c d e : Cell} → Same c d → Same d e → Same c e
same_then p q = record { left = p.left ∙ q.left; right = p.right ∙ q.right; parent = p.parent ∙ q.parent; step = p.step ∙ q.step }

-- a write at j of a value with the item of what stood there keeps every item
same_set : (cs : List Cell) (j k : ℕ) (v : Cell) → j < length cs → Same v (at cs j) → Same (at (set cs j v) k) (at cs k)
same_set cs j k v h s =
    ⊎_elim {C = Same (at (set cs j v) k) (at cs k)}
    (λ (e : k ≡ j). rw (e, get_or-set_same cs j v blank h) s)
    (λ ne. same_of (get_or-set_other cs j k v blank ne))
    (cases_eq k j)

seen_set : (cs : List Cell) (j k : ℕ) (v : Cell) → j < length cs → v.seen ≡ (at cs j).seen → (at (set cs j v) k).seen ≡ (at cs k).seen
seen_set cs j k v h s =
    ⊎_elim {C = (at (set cs j v) k).seen ≡ (at cs k).seen}
    (λ (e : k ≡ j). rw (e, get_or-set_same cs j v blank h) s)
    (λ (ne : k ≢ j). rw get_or-set_other refl)
    (cases_eq k j)

-- what a cell adds to the count of marks
abbrev mark : ℕ → ℕ
mark seen = cond (eqb seen 1) 1 0

no_mark : (seen : ℕ) → seen ≢ 1 → mark seen ≡ 0
no_mark seen ne = ap (λ (b : Bool). cond b 1 0) (ne_eqb seen 1 ne)

pub grown : (cs : List Cell) (tail : ℕ) (c : Cell) (p : ℕ) → tail < length cs → p < length cs → (at cs p).seen ≢ 1 → Grown cs (marked (placed cs tail c) p) tail c p
grown cs tail c p ht hp fresh =
    let ds : List Cell = placed cs tail c in
    let inside : p < length ds = simp length-set (omega arith) in
    let unseen : (at ds p).seen ≢ 1 = λ e. fresh (sym (seen_set cs tail p _ ht refl) ∙ e) in
    let again : (k : ℕ) → Same (at (marked ds p) k) (at ds k) = λ k. same_set ds p k _ inside (record { left = refl; right = refl; parent = refl; step = refl }) in
    let first : marks ds + mark (at cs tail).seen ≡ marks cs + mark (at cs tail).seen = sum_by-set (λ (x : Cell). mark x.seen) cs tail _ blank ht in
    let second : marks (marked ds p) + mark (at ds p).seen ≡ marks ds + 1 = sum_by-set (λ (x : Cell). mark x.seen) ds p _ blank inside in
    let none_there : mark (at ds p).seen ≡ 0 = no_mark (at ds p).seen unseen in
    record {
      kept = λ k ne. same_then (again k) (same_of (get_or-set_other cs tail k _ blank ne));
      new = same_then (again tail) (same_then (same_of (get_or-set_same cs tail _ blank ht)) (record { left = refl; right = refl; parent = refl; step = refl }));
      seen = λ q ne. rw (get_or-set_other ds p q _ blank ne) (seen_set cs tail q _ ht refl);
      here = ap (λ (x : Cell). x.seen) (get_or-set_same ds p _ blank inside);
      count = omega arith;
    }

pub tail_room : (cs : List Cell) (tail : ℕ) → marks cs ≡ tail → tail ≤ length cs
tail_room cs tail e = omega (arith, count_by-le-length is_seen cs)

-- where a pair is not seen there is room for one item more
pub fresh_room : (cs : List Cell) (p : ℕ) → p < length cs → (at cs p).seen ≢ 1 → marks cs < length cs
fresh_room cs p h fresh =
    let e : marks (marked cs p) + mark (at cs p).seen ≡ marks cs + 1 = sum_by-set (λ (x : Cell). mark x.seen) cs p _ blank h in
    let z : mark (at cs p).seen ≡ 0 = no_mark (at cs p).seen fresh in
    let l : length (marked cs p) ≡ length cs = length-set cs p _ in
    omega (arith, count_by-le-length is_seen (marked cs p))

-- blank cells have no mark

pub blank_seen : (cs : List Cell) → AllBlank cs → (k : ℕ) → (at cs k).seen ≡ 0
blank_seen cs clear k =
    ⊎_elim {C = (at cs k).seen ≡ 0}
    (λ (h : k < length cs). ap (λ (c : Cell). c.seen) (clear k h))
    (λ h. ap (λ (c : Cell). c.seen) (get_or_past cs k blank h))
    (cases_lt k (length cs))

pub blank_marks : (cs : List Cell) → AllBlank cs → marks cs ≡ 0
blank_marks [] clear = refl
blank_marks (x ∷ cs) clear =
    let first : mark x.seen ≡ 0 = ap (λ (c : Cell). mark c.seen) (clear 0 (omega arith)) in
    let rest : marks cs ≡ 0 = blank_marks cs (λ k h. clear (suc k) (suc-le-suc h)) in
    let all : marks (x ∷ cs) ≡ mark x.seen + marks cs = sum_by-cons (λ (c : Cell). mark c.seen) x cs in
    omega arith

-- The rows of a draft as a list: what is counted, found or taken greatest there is so by the numbers of the rows.
use Rattle.std.proofs.Common.{◌≡◌, ℕ, zero, suc, ◌+◌, ◌<◌, ◌≤◌, max, Bool, true, false, cond, not, IsTrue, ◌↔◌, ◌||◌, ◌&&◌, eqb, List, [], ◌∷◌, length, get_or, take, None, sym, refl, ap, ◌∙◌, subst, ⊎_elim, arith, count_by, fold}
use Rattle.std.specs.List.{filter, position, position_or_len, list_any, list_all, Any}
use Rattle.std.proofs.lemmas.List.Folds.{sum_by-zero, list_any-from_Any, Any-from_list_any}
use Rattle.std.proofs.Math.Seq.{take-suc}
use Rattle.std.proofs.lemmas.Bool.{cases_lt, cases_Bool, cond-true, cond-false, lt-ltb, le-ltb}
use Rattle.std.proofs.lemmas.List.{length-take-le, get_or-take}
use Rattle.std.proofs.lemmas.List.Elements.{filter-append}
use Rattle.std.proofs.lemmas.List.Sums.{count_by_more_yes, count_by_more_no, fold-append, passes_at_first, fails_before_first}
use Rattle.text.specs.declared.draft.Row.{Row}
use Rattle.text.specs.declared.draft.Draft.{Draft}
use Rattle.text.specs.Draft.{no_row}
use Rattle.table.specs.First.{first}
use Rattle.table.specs.Firsts.{first_at, first_all}
use Rattle.table.specs.Guard.{last_end}
use Rattle.table.specs.Meaning.{given_if}
use Rattle.table.specs.Rows.{tally}
use Rattle.table.specs.Stretch.{greatest_end}
use Rattle.table.specs.Tally.{tally_yes, tally_no}

pub count_is : {X : Type 0} (p : X → Bool) (xs : List X) (d : X) (n : ℕ) → n ≤ length xs → count_by p (take n xs) ≡ tally (λ k. p (get_or xs k d)) n
count_is p xs d zero l = refl
count_is p xs d (suc n) l =
    let P : ℕ → Type 0 = λ m. count_by p (take m xs) ≡ tally (λ k. p (get_or xs k d)) m in
    let h = count_is p xs d n (omega arith) in
    let e : n + 1 ≡ suc n = omega arith in
    subst P e
    (⊎_elim
    (λ yes. count_by_more_yes p xs n d (omega arith) yes ∙ ap (λ x. x + 1) h ∙ sym (tally_yes (λ k. p (get_or xs k d)) n yes))
    (λ no. count_by_more_no p xs n d (omega arith) no ∙ h ∙ sym (tally_no (λ k. p (get_or xs k d)) n no))
    (cases_Bool (p (get_or xs n d))))

-- some element passes where not none is counted
some_passes : {X : Type 0} (p : X → Bool) (ys : List X) → list_any p ys ≡ not (list_all (λ x. eqb (cond (p x) 1 0) 0) ys)
some_passes p [] = refl
some_passes p (y ∷ ys) =
    elim (p y) as (λ b. (b || list_any p ys) ≡ not (eqb (cond b 1 0) 0 && list_all (λ x. eqb (cond (p x) 1 0) 0) ys)) [ true ↦ refl | false ↦ some_passes p ys ]

-- a test that is true just where some element passes
tests_any : {X : Type 0} (p : X → Bool) (ys : List X) (b : Bool) → (IsTrue b ↔ Any (λ x. IsTrue (p x)) ys) → b ≡ list_any p ys
tests_any p ys true e = sym (list_any-from_Any p ys (e.0 refl))
tests_any p ys false e = ⊎_elim (λ (yes : list_any p ys ≡ true). let z : false ≡ true = e.1 (Any-from_list_any p ys yes) in cc) sym (cases_Bool (list_any p ys))

pub any_is : {X : Type 0} (p : X → Bool) (xs : List X) (d : X) (n : ℕ) (b : Bool) → n ≤ length xs → (IsTrue b ↔ Any (λ x. IsTrue (p x)) (take n xs)) → b ≡ not (eqb (tally (λ k. p (get_or xs k d)) n) 0)
any_is p xs d n b l e = tests_any p (take n xs) b e ∙ some_passes p (take n xs) ∙ ap not (sym (sum_by-zero (λ x. cond (p x) 1 0) (take n xs)) ∙ ap (λ k. eqb k 0) (count_is p xs d n l))

pub position_is : {X : Type 0} (p : X → Bool) (xs : List X) (d : X) (n : ℕ) → n ≤ length xs → position p (take n xs) ≡ first (λ k. given_if (p (get_or xs k d)) k) n
position_is p xs d n l =
    let ys = take n xs in
    let m = position_or_len p (take n xs) in
    let f = λ (k : ℕ). given_if (p (get_or xs k d)) k in
    let len : length (take n xs) ≡ n = length-take-le n xs l in
    let fails : (k : ℕ) → k < m → k < n → f k ≡ None = λ k a b. ap (λ v. given_if v k) (sym (ap p (get_or-take n xs k d b)) ∙ fails_before_first p (take n xs) k d a) in
    ⊎_elim
    (λ found.
    let inside : m < n = omega arith in
    cond-true _ _ _ (lt-ltb _ _ found)
    ∙ sym (first_at f m n m inside (first_all f m (λ k a. fails k a (omega arith)))
    (ap (λ v. given_if v m) (sym (ap p (get_or-take n xs m d inside)) ∙ passes_at_first p (take n xs) d found))))
    (λ past. cond-false _ _ _ (le-ltb _ _ past) ∙ sym (first_all f n (λ k a. fails k (omega arith) a)))
    (cases_lt m (length (take n xs)))

fold_one : {X : Type 0} (f : ℕ → X → ℕ) (a : ℕ) (x : X) (b : Bool) → fold f a (cond b (x ∷ []) []) ≡ cond b (f a x) a
fold_one f a x true = refl
fold_one f a x false = refl

-- what a filter leaves out a fold can pass over itself
pub fold_filter : {X : Type 0} (p : X → Bool) (f : ℕ → X → ℕ) (a : ℕ) (xs : List X) → fold f a (filter p xs) ≡ fold (λ b x. cond (p x) (f b x) b) a xs
fold_filter p f a [] = refl
fold_filter p f a (x ∷ xs) =
    elim (p x) as (λ b. fold f a (cond b (x ∷ filter p xs) (filter p xs)) ≡ fold (λ c y. cond (p y) (f c y) c) (cond b (f a x) a) xs) [ true ↦ fold_filter p f (f a x) xs | false ↦ fold_filter p f a xs ]

pub greatest_is : (d : Draft) (s n : ℕ) → n ≤ length d.rows.all → fold (λ a (w : Row). max a (last_end w.guard)) 0 (filter (λ (w : Row). eqb w.state s) (take n d.rows.all)) ≡ greatest_end d s n
greatest_is d s zero l = refl
greatest_is d s (suc n) l =
    let xs = d.rows.all in
    let p : Row → Bool = λ w. eqb w.state s in
    let f : ℕ → Row → ℕ = λ a w. max a (last_end w.guard) in
    let x : Row = get_or xs n no_row in
    ap (λ ys. fold f 0 (filter p ys)) (take-suc xs n no_row (omega arith))
    ∙ ap (fold f 0) (filter-append p (take n xs) (x ∷ []))
    ∙ fold-append f 0 (filter p (take n xs)) (filter p (x ∷ []))
    ∙ fold_one f (fold f 0 (filter p (take n xs))) x (p x)
    ∙ ap (λ a. cond (p x) (f a x) a) (greatest_is d s n (omega arith))

-- What the lexer's calls say of the part at a place.
use Rattle.std.proofs.Common.{◌≡◌, ℕ, ◌+◌, ◌-◌, ◌<◌, ◌≤◌, true, false, ltb, cond, List, [], ◌∷◌, length, get_or, take, drop, Some, None, Option, sym, ap, ◌∙◌, ⊎_elim, arith, length-drop}
use Rattle.std.proofs.lemmas.List.{drop-drop, drop_more, drop_all}
use Rattle.std.specs.Bool.{then_some}
use Rattle.std.proofs.lemmas.Bool.{cases_lt, lt-ltb, le-ltb}
use Rattle.text.specs.declared.token.Kind.{Kind}
use Rattle.text.specs.declared.token.Kind.TheVariants.{Blank, Letter, Digit}
use Rattle.text.specs.Token.{is_of, is_mark, run, numeral, word, number, mark, end, got, no, numbered, skip, part, first_part}
use Rattle.text.specs.declared.fault.TextFault.TheVariants.{Malformed}

-- past a run that ends at e
pub past_run : (k : Kind) (xs : List ℕ) (from e : ℕ) → e ≡ from + run k (drop from xs) → drop (run k (drop from xs)) (drop from xs) ≡ drop e xs
past_run k xs from e is = drop-drop (run k (drop from xs)) from xs ∙ ap (λ n. drop n xs) (sym is)

pub taken_run : (k : Kind) (xs : List ℕ) (from e : ℕ) → e ≡ from + run k (drop from xs) → take (run k (drop from xs)) (drop from xs) ≡ take (e - from) (drop from xs)
taken_run k xs from e is = let n : run k (drop from xs) ≡ e - from = omega arith in ap (λ n. take n (drop from xs)) n

pub part_word : (ys : List ℕ) (b : ℕ) (bs : List ℕ) → ys ≡ b ∷ bs → true ≡ is_of Letter b → part ys ≡ got (word (take (run Letter ys) ys)) (drop (run Letter ys) ys)
part_word ys b bs e l = rw e (rw (← l))

pub part_number : (ys : List ℕ) (b : ℕ) (bs : List ℕ) → ys ≡ b ∷ bs → false ≡ is_of Letter b → true ≡ is_of Digit b → part ys ≡ numbered (numeral (take (run Digit ys) ys)) ys (drop (run Digit ys) ys)
part_number ys b bs e l d = rw e (rw (← l, ← d))

pub part_mark : (ys : List ℕ) (b : ℕ) (bs : List ℕ) → ys ≡ b ∷ bs → false ≡ is_of Letter b → false ≡ is_of Digit b → part ys ≡ cond (is_mark b) (got (mark b) bs) (no Malformed ys)
part_mark ys b bs e l d = rw e (rw (← l, ← d))

module _ (xs : List ℕ) (at start : ℕ) (from : start ≡ at + run Blank (drop at xs)) where
  pub skipped : skip (drop at xs) ≡ drop start xs
  skipped = past_run Blank xs at start from

  pub first_is : then_some (ltb start (length xs)) start ≡ first_part xs at
  first_is =
      ⊎_elim
      (λ (h : start < length xs).
      let is : skip (drop at xs) ≡ get_or xs start 0 ∷ drop (start + 1) xs = skipped ∙ drop_more xs start 0 h in
      let place : start ≡ length xs - length (get_or xs start 0 ∷ drop (start + 1) xs) = simp length-drop (omega arith) in
      rw (lt-ltb _ _ h, is) (ap Some place))
      (λ (h : length xs ≤ start). let none : skip (drop at xs) ≡ [] = skipped ∙ drop_all start xs h in rw (le-ltb _ _ h, none))
      (cases_lt start (length xs))

  module _ (b : ℕ) (h : start < length xs) (first : b ≡ get_or xs start 0) where
    rest : drop start xs ≡ b ∷ drop (start + 1) xs
    rest = drop_more xs start 0 h ∙ ap (λ x. x ∷ drop (start + 1) xs) (sym first)

    pub at_word : (e : ℕ) → true ≡ is_of Letter b → e ≡ start + run Letter (drop start xs) → part (skip (drop at xs)) ≡ got (word (take (e - start) (drop start xs))) (drop e xs)
    at_word e l to =
        ap part skipped ∙ part_word (drop start xs) _ _ rest l ∙ (λ i. got (word (taken_run Letter xs start e to i)) (past_run Letter xs start e to i))

    pub at_number : (e : ℕ) → false ≡ is_of Letter b → true ≡ is_of Digit b → e ≡ start + run Digit (drop start xs) → part (skip (drop at xs)) ≡ numbered (numeral (take (e - start) (drop start xs))) (drop start xs) (drop e xs)
    at_number e l d to =
        ap part skipped ∙ part_number (drop start xs) _ _ rest l d ∙ (λ i. numbered (numeral (taken_run Digit xs start e to i)) (drop start xs) (past_run Digit xs start e to i))

pub numbered_as : (o p : Option ℕ) (bs more : List ℕ) → p ≡ o → numbered o bs more ≡ numbered p bs more
numbered_as o p bs more e = ap (λ q. numbered q bs more) (sym e)

pub number_some : (o : Option ℕ) (n : ℕ) (from rest : List ℕ) → Some n ≡ o → numbered o from rest ≡ got (number n) rest
number_some o n from rest e = numbered_as o (Some n) from rest e

pub number_none : (o : Option ℕ) (from rest : List ℕ) → None ≡ o → numbered o from rest ≡ no Malformed from
number_none o from rest e = numbered_as o None from rest e

module _ (xs : List ℕ) (at start : ℕ) (from : start ≡ at + run Blank (drop at xs)) where
  pub at_end : length xs ≤ start → (part (skip (drop at xs)) ≡ got end (drop (length xs) xs)) × (skip (drop at xs) ≡ drop (length xs) xs)
  at_end h =
      let none : skip (drop at xs) ≡ [] = skipped xs at start from ∙ drop_all start xs h in
      let all : drop (length xs) xs ≡ [] = drop_all (length xs) xs (omega arith) in
      (rw (none, all), none ∙ sym all)

  pub first_some : start < length xs → Some start ≡ first_part xs at
  first_some h = rw (lt-ltb _ _ h) at (first_is xs at start from)

  pub first_none : length xs ≤ start → None ≡ first_part xs at
  first_none h = rw (le-ltb _ _ h) at (first_is xs at start from)

  pub at_mark : start < length xs → false ≡ is_of Letter (get_or xs start 0) → false ≡ is_of Digit (get_or xs start 0) → part (skip (drop at xs)) ≡ cond (is_mark (get_or xs start 0)) (got (mark (get_or xs start 0)) (drop (start + 1) xs)) (no Malformed (drop start xs))
  at_mark h l d = ap part (skipped xs at start from) ∙ part_mark (drop start xs) _ _ (drop_more xs start 0 h) l d

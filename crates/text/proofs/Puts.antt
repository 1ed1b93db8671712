-- One writing after another.
use Rattle.std.proofs.Common.{◌≡◌, ℕ, ◌+◌, ◌-◌, ◌^◌, ◌<◌, ◌≤◌, min, true, false, leb, List, [], ◌∷◌, ◌++◌, length, get_or, take, drop, Ok, Err, decimal, sym, ap, ◌∙◌, subst, ⊎_elim, append_assoc, arith, length-append, length-take}
use Rattle.std.proofs.lemmas.List.{flat_map_more, take_more, take_all, drop-drop}
use Rattle.std.proofs.lemmas.Bool.{cases_lt, le-leb, lt-leb}
use Rattle.std.specs.List.{flat_map}
use Rattle.std.proofs.lemmas.Fmt.{length-decimal-le}
use Rattle.text.specs.declared.fault.TextFault.TheVariants.{BufferTooShort}
use Rattle.text.specs.Put.{Puts}
use Rattle.text.specs.Write.{written, filled}

-- lists that are the same from b on are the same from e on
same_past : (b e : ℕ) (p o : List ℕ) → b ≤ e → drop b p ≡ drop b o → drop e p ≡ drop e o
same_past b e p o h same =
    let to : b + (e - b) ≡ e = omega arith in
    ap (λ k. drop k p) (sym to) ∙ sym (drop-drop (e - b) b p) ∙ ap (drop (e - b)) same ∙ drop-drop (e - b) b o ∙ ap (λ k. drop k o) to

module _ {o p q : List ℕ} {a b e : ℕ} where
  pub puts_then : {x y : List ℕ} → Puts o a p b x → Puts p b q e y → Puts o a q e (x ++ y)
  puts_then {x} {y} f g =
      let later : b ≤ e = omega (arith, g.long) in
      record {
        front = g.front ∙ ap (λ t. t ++ y) f.front ∙ append_assoc (take a o) x y;
        long = simp length-append (omega (arith, f.long, g.long));
        rest = g.rest ∙ same_past b e p o later f.rest;
      }

  -- a number with the byte behind it, and then the rest of the line
  pub puts_number : (ds : List ℕ) (c : ℕ) (y : List ℕ) → Puts o a p b (ds ++ (c ∷ [])) → Puts p b q e y → Puts o a q e (ds ++ (c ∷ y))
  puts_number ds c y f g = let h = puts_then f g in let assoc : (ds ++ (c ∷ [])) ++ y ≡ ds ++ (c ∷ y) = append_assoc ds (c ∷ []) y in rw assoc at h

  -- a turn of a loop that puts a line for each element
  pub puts_line : {X : Type 0} (f : X → List ℕ) (xs : List X) (i : ℕ) (d : X) → i < length xs → Puts o a p b (flat_map f (take i xs)) → Puts p b q e (f (get_or xs i d)) → Puts o a q e (flat_map f (take (i + 1) xs))
  puts_line f xs i d h had g =
      let both = puts_then had g in
      let more : flat_map f (take i xs) ++ f (get_or xs i d) ≡ flat_map f (take (i + 1) xs) = flat_map_more f [] (take i xs) (get_or xs i d) ∙ ap (flat_map f) (sym (take_more xs i d h)) in
      rw more at both

pub puts_as : {o p : List ℕ} {a b : ℕ} {x y : List ℕ} → x ≡ y → Puts o a p b x → Puts o a p b y
puts_as {o} {p} {a} {b} e h = subst (Puts o a p b) e h

module _ {X : Type 0} (xs : List X) (n k size : ℕ) (sized : length xs ≡ size) (is : k ≡ min n size) where
  -- what `&xs[0..n.min(size)]` holds
  pub part_is : take (k - 0) xs ≡ take n xs
  part_is =
      ⊎_elim
      (λ lt. let e : k - 0 ≡ n = omega arith in ap (λ j. take j xs) e)
      (λ ge. let a : length xs ≤ k - 0 = omega arith in take_all _ xs a ∙ sym (take_all n xs (omega arith)))
      (cases_lt n size)

  pub part_short : length (take (k - 0) xs) ≤ size
  part_short = simp length-take (omega arith)

pub few_digits : (n : ℕ) (bytes : List ℕ) → bytes ≡ decimal n → n < 2 ^ 16 → length bytes ≤ 5
few_digits n bytes is h = subst (λ b. length b ≤ 5) (sym is) (length-decimal-le 5 n (omega arith) (omega arith) (omega arith))

pub most_digits : (n : ℕ) (bytes : List ℕ) → bytes ≡ decimal n → n < 2 ^ 64 → length bytes ≤ 20
most_digits n bytes is h = subst (λ b. length b ≤ 20) (sym is) (length-decimal-le 20 n (omega arith) (omega arith) h)

module _ {o p t : List ℕ} {e : ℕ} (put : Puts o 0 p e t) (buffer : List ℕ) where
  size : e ≡ length t
  size = omega (arith, put.long)

  pub too_short : length buffer < e → (Err BufferTooShort ≡ written t buffer) × (buffer ≡ filled t buffer)
  too_short h = let f : leb (length t) (length buffer) ≡ false = lt-leb _ _ (omega (arith, size)) in (rw f, rw f)

  pub copied : (last : List ℕ) → e ≤ length buffer → last ≡ take (e - 0) p → (Ok e ≡ written t buffer) × (last ++ drop (e - 0) buffer ≡ filled t buffer)
  copied last h is =
      let f : leb (length t) (length buffer) ≡ true = le-leb _ _ (omega (arith, size)) in
      let n : e - 0 ≡ e = omega arith in
      let all : last ≡ t = is ∙ ap (λ j. take j p) n ∙ put.front in
      let rest : drop (e - 0) buffer ≡ drop (length t) buffer = ap (λ j. drop j buffer) (n ∙ size) in
      (rw f (ap Ok size), rw f (λ i. all i ++ rest i))

-- A run of bytes is as long as the front that they have of its kind.
use Rattle.std.proofs.Common.{◌≡◌, ℕ, suc, ◌+◌, cond, List, [], ◌∷◌, refl, ap, arith}
use Rattle.std.specs.List.{prefix_len}
use Rattle.text.specs.declared.token.Kind.{Kind}
use Rattle.text.specs.Token.{is_of, run}
use Rattle.std.proofs.Common.{◌<◌, ◌≤◌, true, false, length, get_or, drop, ◌∙◌}
use Rattle.std.proofs.lemmas.List.{at_drop_more, at_drop_all}

pub prefix_run : (k : Kind) (xs : List ℕ) → prefix_len (is_of k) xs ≡ run k xs
prefix_run k [] = refl
prefix_run k (x ∷ xs) =
    let more : 1 + prefix_len (is_of k) xs ≡ suc (run k xs) = omega (arith, prefix_run k xs) in ap (λ n. cond (is_of k x) n 0) more

pub run_yes : (k : Kind) (xs : List ℕ) (i : ℕ) → i < length xs → true ≡ is_of k (get_or xs i 0) → run k (drop i xs) ≡ suc (run k (drop (i + 1) xs))
run_yes k xs i h e = at_drop_more (run k) xs i 0 h ∙ rw (← e)

pub run_no : (k : Kind) (xs : List ℕ) (i : ℕ) → i < length xs → false ≡ is_of k (get_or xs i 0) → run k (drop i xs) ≡ 0
run_no k xs i h e = at_drop_more (run k) xs i 0 h ∙ rw (← e)

pub run_all : (k : Kind) (xs : List ℕ) (i : ℕ) → length xs ≤ i → run k (drop i xs) ≡ 0
run_all k xs i h = at_drop_all (run k) xs i h

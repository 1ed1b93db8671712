-- A number's digits, written from the last to the first.
use Rattle.std.proofs.Common.{◌≡◌, ℕ, ◌+◌, ◌-◌, ◌/◌, ◌%◌, ◌^◌, ◌<◌, ◌≤◌, List, [], ◌∷◌, ◌++◌, length, drop, set, replicate, decimal, sym, refl, ap, ◌∙◌, append_assoc, append-nil, arith, length-append, length-set}
use Rattle.std.proofs.lemmas.Fmt.{decimal_digit, decimal_step, decimal_nonempty, length-decimal-le}
use Rattle.std.proofs.lemmas.List.{drop-set}

-- of n the digits from a place on are written, and those of rest are still to be
pub record Writing (n rest from : ℕ) (bytes : List ℕ) : Type 0 where
  pub small : rest < 2 ^ 64
  pub sized : length bytes ≡ 20
  pub within : from ≤ 20
  pub room : length (decimal rest) ≤ from
  pub so_far : decimal n ≡ decimal rest ++ drop from bytes

pub some_room : {n rest from : ℕ} {bytes : List ℕ} → Writing n rest from bytes → 0 < from
some_room {n} {rest} {from} w = omega (arith, decimal_nonempty rest w.small, w.room)

pub writing_none : (n : ℕ) → n < 2 ^ 64 → Writing n n 20 (replicate 20 0)
writing_none n h = record {
  small = h;
  sized = refl;
  within = omega arith;
  room = length-decimal-le 20 n (omega arith) (omega arith) h;
  so_far = sym (append-nil (decimal n));
}

module _ {n rest from : ℕ} {bytes : List ℕ} (w : Writing n rest from bytes) where
  shifted : (b : ℕ) → drop (from - 1) (set bytes (from - 1) b) ≡ b ∷ drop from bytes
  shifted b =
      let some = some_room w in
      let back : from - 1 + 1 ≡ from = omega arith in
      drop-set bytes (from - 1) b (omega (arith, w.sized, w.within)) ∙ ap (λ j. b ∷ drop j bytes) back

  pub writing_more : 10 ≤ rest → Writing n (rest / 10) (from - 1) (set bytes (from - 1) (48 + rest % 10))
  writing_more h =
      let step = decimal_step rest h w.small in
      let long : length (decimal rest) ≡ length (decimal (rest / 10)) + 1 = ap length step ∙ length-append (decimal (rest / 10)) ((48 + rest % 10) ∷ []) in
      record {
        small = omega (arith, w.small);
        sized = length-set bytes (from - 1) (48 + rest % 10) ∙ w.sized;
        within = omega (arith, w.within);
        room = omega (arith, w.room);
        so_far =
            w.so_far
            ∙ ap (λ ds. ds ++ drop from bytes) step
            ∙ append_assoc (decimal (rest / 10)) ((48 + rest % 10) ∷ []) (drop from bytes)
            ∙ ap (λ ds. decimal (rest / 10) ++ ds) (sym (shifted (48 + rest % 10)));
      }

  pub written_all : rest < 10 → drop (from - 1) (set bytes (from - 1) (48 + rest)) ≡ decimal n
  written_all h = shifted (48 + rest) ∙ sym (w.so_far ∙ ap (λ ds. ds ++ drop from bytes) (decimal_digit rest h))

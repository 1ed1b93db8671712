-- The steps of a word that is put together of two, or read entry by entry.
use Rattle.std.proofs.Common.{◌≡◌, ℕ, ◌+◌, ◌<◌, List, [], ◌∷◌, ◌++◌, length, get_or, take, ap, arith}
use Rattle.std.proofs.lemmas.List.{take_more}
use Rattle.table.specs.declared.word.Entry.{Entry}
use Rattle.table.specs.Word.{ticks, steps}

pub steps_append : (q : ℕ) (u w : List Entry) → steps q (u ++ w) ≡ steps q u + steps q w
steps_append q [] w = omega arith
steps_append q (e ∷ u) w = let h = steps_append q u w in omega arith

-- one more entry
pub steps_more : (q : ℕ) (w : List Entry) (i : ℕ) (d : Entry) → i < length w → steps q (take (i + 1) w) ≡ steps q (take i w) + (ticks q (get_or w i d).wait + 1)
steps_more q w i d l = let a = ap (steps q) (take_more w i d l) in let b = steps_append q (take i w) (get_or w i d ∷ []) in omega arith

use Rattle.std.proofs.Common.{ℕ, ◌≡◌, ◌≤◌, length, decimal, subst, arith, length-append}
use Rattle.text.proofs.write.RowPut.put.Goals as goal

few : (m n : ℕ) → m ≡ n → length (decimal m) ≤ 5 → length (decimal n) ≤ 5
few m n = subst (λ k. length (decimal k) ≤ 5)

pub returns-clause-short : goal.returns-clause-short
returns-clause-short c =
    simp length-append (omega (
      arith,
      few _ _ c.from.ensures c.put_number.ensures.short,
      few _ _ c.from-2.ensures c.put_number-2.ensures.short,
      simp length-append at c.put.ensures.short,
      few _ _ c.from-3.ensures c.put_number-3.ensures.short,
      few _ _ c.from-4.ensures c.put_number-4.ensures.short,
    ))

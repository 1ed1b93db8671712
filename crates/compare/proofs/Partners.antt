-- After a whole search the marks say which pairs strings lead to.
use Rattle.std.proofs.Common.{◌≡◌, ℕ, ◌<◌, ◌≤◌, ◌≢◌, List, [], ◌∷◌, ◌++◌, length, take, Some, None, Ok, Option, MatchOption, sym, refl, ap, ◌∙◌, subst, inl, arith, get_or-take}
use Rattle.std.proofs.lemmas.List.{get_or_past, take_at}
use Rattle.table.specs.Meaning.{Meaning, Lawful}
use Rattle.table.specs.Steps.{Over, leads}
use Rattle.table.specs.declared.word.Step.{Step}
use Rattle.table.proofs.Strings.{leads_in}
use Rattle.compare.specs.Cell.{blank}
use Rattle.compare.specs.Compare.{cells_needed}
use Rattle.compare.specs.Partner.{Reached, Together, Partner, CellsSearched, SearchedIfAlike}
use Rattle.compare.specs.Search.{at, pair_number, Queued, Inv, Searched}
use Rattle.compare.specs.declared.cell.Cell.{Cell}
use Rattle.compare.specs.declared.compare.Verdict.{Verdict}
use Rattle.compare.specs.declared.compare.Verdict.TheVariants.{Alike, Different}
use Rattle.compare.proofs.Queue.{first_left, first_right}
use Rattle.compare.proofs.Visits.{number_in}

module _ {m n : Meaning} {W : ℕ → List Step} {cs : List Cell} {tail : ℕ} (inv : Inv m n W cs tail tail 0) where
  -- a string leads from a queued pair to a queued pair
  queued_along : (w : List Step) (k : ℕ) → k < tail → Over m.inputs w → Queued cs tail (leads m w (at cs k).left) (leads n w (at cs k).right)
  queued_along [] k h ok = record { place = k; below = h; is_left = refl; is_right = refl }
  queued_along (x ∷ w) k h ok =
      let q = (inv.closed k h x ok.0 (inl h)).queued in
      rw (q.is_left, q.is_right) at (queued_along w q.place q.below ok.1)

  pub queued_from_start : (w : List Step) → Over m.inputs w → Queued cs tail (leads m w m.start) (leads n w n.start)
  queued_from_start w ok = rw (first_left inv, first_right inv) at (queued_along w 0 inv.some ok)

  queued_seen : (s t : ℕ) → Queued cs tail s t → (at cs (pair_number n.count s t)).seen ≡ 1
  queued_seen s t q = rw (q.is_left, q.is_right) at (inv.all_seen q.place q.below)

module _ (m n : Meaning) (cs : List Cell) (holding : CellsSearched m n cs) where
  -- the mark of a pair, in the part that the search used
  part_mark : (s t : ℕ) → s < m.count → t < n.count → at (take (cells_needed m n) cs) (pair_number n.count s t) ≡ at cs (pair_number n.count s t)
  part_mark s t hs ht = get_or-take (cells_needed m n) cs (pair_number n.count s t) blank (number_in s t n.count m.count hs ht)

  pub partner_found : (s t : ℕ) → s < m.count → t < n.count → (at cs (pair_number n.count s t)).seen ≡ 1 → Together m n s t
  partner_found s t hs ht seen =
      let inv = holding.holds.inv in
      let q = inv.known s t hs ht (rw (part_mark s t hs ht) seen) in
      let i = inv.item q.place q.below in
      record { string = holding.holds.strings q.place; over = i.over; left = i.left_leads ∙ q.is_left; right = i.right_leads ∙ q.is_right }

  pub partner_none : (s : ℕ) → s < m.count → ((t : ℕ) → t < n.count → (at cs (pair_number n.count s t)).seen ≢ 1) → Reached m s → ⊥
  partner_none s hs none reached =
      let inv = holding.holds.inv in
      let t = leads n reached.string n.start in
      let q = rw reached.leads_there at (queued_from_start inv reached.string reached.over) in
      let ht : t < n.count = omega (arith, (inv.item q.place q.below).right_in, q.is_right) in
      none t ht (rw (part_mark s t hs ht) at (queued_seen inv s t q))

  abbrev Mark : ℕ → ℕ → Type 0
  Mark s t = (at cs (pair_number n.count s t)).seen ≡ 1

  -- the first state whose pair with s is marked, as a search of the range finds it
  pub partner_from : (s : ℕ) → s < m.count → (r : Option ℕ) → MatchOption r ((t : ℕ) → 0 ≤ t → t < n.count → Mark s t → ⊥) (λ t. (0 ≤ t) × (t < n.count) × Mark s t × ((k : ℕ) → 0 ≤ k → k < t → Mark s k → ⊥)) → Partner m n s r
  partner_from s hs None none = partner_none s hs (λ t h. none t (omega arith) h)
  partner_from s hs (Some t) found = partner_found s t hs found.1 found.2

pub reached_in : (m : Meaning) → Lawful m → (s : ℕ) → Reached m s → s < m.count
reached_in m law s r = rw r.leads_there at (leads_in m law r.string m.start r.over law.start_in)

-- past the end of the cells there is no mark
pub unmarked_past : (cs : List Cell) (k : ℕ) → length cs ≤ k → (at cs k).seen ≢ 1
unmarked_past cs k h e = omega (arith, ap (λ (c : Cell). c.seen) (get_or_past cs k blank h), e)

-- a search in the first part of the cells
pub part_searched : (m n : Meaning) (v : Verdict) (part rest : List Cell) → length part ≡ cells_needed m n → (v ≡ Alike → Searched m n part) → SearchedIfAlike m n (Ok v) (part ++ rest)
part_searched m n Alike part rest long searched = subst (λ (cs : List Cell). Searched m n cs) (sym (take_at part rest (cells_needed m n) long)) (searched refl)
part_searched m n (Different count entries) part rest long searched = tt

-- One turn of the walk from an item back to the first.
use Rattle.std.proofs.Common.{◌≡◌, ℕ, zero, suc, ◌+◌, ◌-◌, ◌<◌, ◌≤◌, List, [], ◌∷◌, ◌++◌, length, take, drop, set, refl, ap, ◌∙◌, ⊎_elim, append_assoc, arith, length-set}
use Rattle.std.proofs.lemmas.Bool.{cases_eq}
use Rattle.std.proofs.lemmas.List.{drop-set, drop-set-lt}
use Rattle.std.proofs.lemmas.List.Sums.{sum_by-append}
use Rattle.table.specs.Word.{ticks}
use Rattle.table.specs.declared.word.Entry.{Entry}
use Rattle.table.specs.declared.word.Step.{Step}
use Rattle.table.specs.declared.word.Step.TheVariants.{Tick, Take}
use Rattle.table.specs.Steps.{waiting, string}
use Rattle.table.proofs.Strings.{length_push}
use Rattle.table.proofs.Ticks.{half_days}
use Rattle.compare.specs.Cell.{step_of}
use Rattle.compare.specs.Search.{at}
use Rattle.compare.specs.Spell.{one_take, takes, Chain, Chained, Counted, Tallied, from, Spelled, entry, Walk}
use Rattle.compare.specs.declared.cell.Cell.{Cell}

takes_push : (w : List Step) (s : Step) → takes (w ++ (s ∷ [])) ≡ takes w + one_take s
takes_push w s = omega (arith, sum_by-append one_take w (s ∷ []))

-- a string is no longer than its item's place in the queue
pub chain_short : (W : ℕ → List Step) (cs : List Cell) (place : ℕ) → Chain W cs place → (bound k : ℕ) → k ≤ bound → k ≤ place → length (W k) ≤ k
chain_short W cs place chain zero k low up =
    let z : k ≡ 0 = omega arith in
    omega (arith, ap (λ (j : ℕ). length (W j)) z, ap length chain.root)
chain_short W cs place chain (suc bound) k low up =
    ⊎_elim {C = length (W k) ≤ k}
    (λ (z : k ≡ 0). omega (arith, ap (λ (j : ℕ). length (W j)) z, ap length chain.root))
    (λ some.
    let l = chain.link k (omega (arith, some)) up in
    let p = (at cs k).parent in
    let grown : length (W k) ≡ length (W p) + 1 = ap length l.grown ∙ length_push (W p) (step_of (at cs k).step) in
    omega (arith, grown, l.earlier, chain_short W cs place chain bound p (omega (arith, l.earlier)) (omega (arith, l.earlier))))
    (cases_eq k 0)

module _ (cs : List Cell) (place item : ℕ) (pos : 0 < item) (up : item ≤ place) where
  takes_back : (W : ℕ → List Step) → Chain W cs place → takes (W item) ≡ takes (W (at cs item).parent) + one_take (step_of (at cs item).step)
  takes_back W chain = ap takes (chain.link item pos up).grown ∙ takes_push (W (at cs item).parent) (step_of (at cs item).step)

  pub tallied_more : (entries e : ℕ) → e ≡ one_take (step_of (at cs item).step) → Tallied cs place item entries → Tallied cs place (at cs item).parent (entries + e)
  tallied_more entries e is so W chain = omega (arith, takes_back W chain, so W chain)

  counted_more : (count rest : ℕ) → Counted cs place item count → rest + one_take (step_of (at cs item).step) ≡ count → Counted cs place (at cs item).parent rest
  counted_more count rest cd is = record { strings = cd.strings; chain = cd.chain; count_is = omega (arith, takes_back cd.strings cd.chain, cd.count_is) }

  pub earlier : Chained cs place → (at cs item).parent < item
  earlier ch = (ch.chain.link item pos up).earlier

  -- a take has to come before this one
  pub some_left : (count i : ℕ) → Counted cs place item count → step_of (at cs item).step ≡ Take i → 0 < count
  some_left count i cd is =
      let one : one_take (step_of (at cs item).step) ≡ 1 = ap one_take is in
      omega (arith, takes_back cd.strings cd.chain, cd.count_is)

  -- the step of the item, before what comes after
  before : (input : ℕ) (es fs : List Entry) → step_of (at cs item).step ∷ string 2 es ≡ string 2 fs → Spelled cs place input item es → Spelled cs place input (at cs item).parent fs
  before input es fs e so W chain =
      let l = chain.link item pos up in
      let p = W (at cs item).parent in
      rw (← e, ← append_assoc p (step_of (at cs item).step ∷ []) (string 2 es), ← l.grown) (so W chain)

  -- one half day more is one tick more
  half_day_more : (wait : ℕ) (w : List Step) → Tick ∷ waiting (ticks 2 wait) w ≡ waiting (ticks 2 (wait + 1)) w
  half_day_more wait w =
      let more : suc (ticks 2 wait) ≡ ticks 2 (wait + 1) = omega (arith, half_days wait, half_days (wait + 1)) in
      ap (λ (n : ℕ). waiting n w) more

  spelled_tick : (input wait next : ℕ) (es : List Entry) → step_of (at cs item).step ≡ Tick → Spelled cs place input item (entry wait next ∷ es) → Spelled cs place input (at cs item).parent (entry (wait + 1) next ∷ es)
  spelled_tick input wait next es is so =
      before input (entry wait next ∷ es) (entry (wait + 1) next ∷ es) (rw is (half_day_more wait (Take next ∷ string 2 es))) so

  spelled_take : (input i : ℕ) (es : List Entry) → step_of (at cs item).step ≡ Take i → Spelled cs place input item es → Spelled cs place input (at cs item).parent (entry 0 i ∷ es)
  spelled_take input i es is so = before input es (entry 0 i ∷ es) (rw is refl) so

-- a write in front of a part puts its entry before the part
from_set : (es : List Entry) (i high : ℕ) (e : Entry) → i < high → i < length es → from (set es i e) i high ≡ e ∷ from es (i + 1) high
from_set es i high e h room =
    let more : high - i ≡ suc (high - (i + 1)) = omega arith in
    rw (more, drop-set es i e room) refl

pub walk_chained : (cs : List Cell) (place item slot : ℕ) → Counted cs place item slot → Chained cs place
walk_chained cs place item slot cd = record { strings = cd.strings; chain = cd.chain }

module _ {cs : List Cell} {place input entries : ℕ} {old : List Entry} {item slot wait next : ℕ} {es : List Entry} (walk : Walk cs place input entries old item slot wait next es) where
  inside : entries ≤ length old → slot < length es
  inside room = omega (arith, walk.low, walk.long)

  module _ (pos : 0 < item) where
    back : (at cs item).parent < item
    back = earlier cs place item pos walk.up (walk_chained cs place item slot walk.counted)

    pub walk_tick : step_of (at cs item).step ≡ Tick → Walk cs place input entries old (at cs item).parent slot (wait + 1) next es
    walk_tick is = record {
      up = omega (arith, back, walk.up);
      low = walk.low;
      short = omega (arith, back, walk.short);
      long = walk.long;
      counted = counted_more cs place item pos walk.up slot slot walk.counted (omega (arith, ap one_take is));
      spelled = spelled_tick cs place item pos walk.up input wait next (from es (slot + 1) entries) is walk.spelled;
      rest = walk.rest;
    }

    -- a take has to come before this one
    pub walk_some : {i : ℕ} → step_of (at cs item).step ≡ Take i → 0 < slot
    walk_some {i} is = some_left cs place item pos walk.up slot i walk.counted is

    pub walk_take : {i : ℕ} → entries ≤ length old → step_of (at cs item).step ≡ Take i → Walk cs place input entries old (at cs item).parent (slot - 1) 0 i (set es slot (entry wait next))
    walk_take {i} room is =
        let shift : slot - 1 + 1 ≡ slot = omega (arith, walk_some is) in
        let part : from (set es slot (entry wait next)) (slot - 1 + 1) entries ≡ entry wait next ∷ from es (slot + 1) entries =
        rw shift (from_set es slot entries (entry wait next) walk.low (inside room)) in
        record {
          up = omega (arith, back, walk.up);
          low = omega (arith, walk.low);
          short = omega (arith, back, walk.up);
          long = length-set es slot (entry wait next) ∙ walk.long;
          counted = counted_more cs place item pos walk.up slot (slot - 1) walk.counted (omega (arith, ap one_take is, walk_some is));
          spelled = rw part (spelled_take cs place item pos walk.up input i (entry wait next ∷ from es (slot + 1) entries) is walk.spelled);
          rest = drop-set-lt entries es slot (entry wait next) walk.low ∙ walk.rest;
        }

  -- the walk at its end, with the first entry written
  module _ (over : item ≤ 0) where
    at_first : slot ≡ 0
    at_first =
        let z : item ≡ 0 = omega arith in
        let t : takes (walk.counted.strings item) ≡ 0 = ap (λ (k : ℕ). takes (walk.counted.strings k)) z ∙ ap takes walk.counted.chain.root in
        omega (arith, walk.counted.count_is)

    pub walked : entries ≤ length old → Spelled cs place input 0 (take entries (set es slot (entry wait next)))
    walked room W chain =
        let z : item ≡ 0 = omega arith in
        let whole : take entries (set es slot (entry wait next)) ≡ entry wait next ∷ from es (slot + 1) entries =
        grind (arith, at_first, from_set es slot entries (entry wait next) walk.low (inside room)) in
        rw whole (rw z at (walk.spelled W chain))

    pub walked_rest : drop entries (set es slot (entry wait next)) ≡ drop entries old
    walked_rest = drop-set-lt entries es slot (entry wait next) walk.low ∙ walk.rest

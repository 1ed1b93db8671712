-- From where the search stopped to what the verdict says in timed words.
use Rattle.std.proofs.Common.{◌≡◌, ℕ, ◌+◌, ◌-◌, ◌<◌, ◌≤◌, List, [], ◌∷◌, ◌++◌, length, take, drop, sym, refl, ap, ◌∙◌, arith}
use Rattle.table.specs.Meaning.{Meaning}
use Rattle.table.specs.Word.{steps}
use Rattle.table.specs.declared.word.Entry.{Entry}
use Rattle.table.specs.declared.word.Step.TheVariants.{Take}
use Rattle.table.specs.Steps.{string}
use Rattle.table.proofs.Strings.{string_over, string_within, string_length, string_answers, strings_alike, length_push}
use Rattle.compare.specs.Compare.{Decided}
use Rattle.compare.specs.Search.{Searched, Told}
use Rattle.compare.specs.Spell.{takes, Chain, Chained, Counted, Tallied, Spelled}
use Rattle.compare.specs.declared.cell.Cell.{Cell}
use Rattle.compare.specs.declared.compare.Verdict.{Verdict}
use Rattle.compare.specs.declared.compare.Verdict.TheVariants.{Alike as FoundAlike, Different}
use Rattle.compare.proofs.Grown.{tail_room}
use Rattle.compare.proofs.Findings.{all_same, Shortest, shortest}
use Rattle.compare.proofs.Walks.{chain_short}

pub searched_alike : (m n : Meaning) (cs : List Cell) → m.inputs ≡ n.inputs → Searched m n cs → (word : List Entry) → Decided m n FoundAlike word word
searched_alike m n cs inputs done word = (strings_alike m n inputs (all_same m n done.holds.strings cs done.tail done.holds.inv), refl)

module _ {m n : Meaning} {cs : List Cell} {place input : ℕ} (told : Told m n cs place input) where
  pub told_inside : place < length cs
  told_inside = omega (arith, told.below, tail_room cs told.tail told.inv.count)

  chain : Chain told.strings cs place
  chain = record { root = told.inv.root; link = λ k pos h. told.inv.link k pos (omega (arith, told.below)) }

  pub told_chained : Chained cs place
  told_chained = record { strings = told.strings; chain = chain }

  pub told_counted : (entries : ℕ) → Tallied cs place 0 entries → Counted cs place place (entries - 1)
  told_counted entries tallied =
      let z : takes (told.strings 0) ≡ 0 = ap takes told.inv.root in
      record { strings = told.strings; chain = chain; count_is = omega (arith, tallied told.strings chain) }

  module _ (word : List Entry) (spelled : Spelled cs place input 0 word) where
    string_is : string 2 word ≡ told.strings place ++ (Take input ∷ [])
    string_is = rw told.inv.root at (spelled told.strings chain)

    -- the word has no more steps than the queue has items up to its end
    pub told_short : steps 2 word ≤ place + 1
    told_short =
        let long : length (string 2 word) ≡ length (told.strings place) + 1 = ap length string_is ∙ length_push (told.strings place) (Take input) in
        omega (arith, long, string_length 2 word, chain_short told.strings cs place chain place place (omega arith) (omega arith))

    least : Shortest m n (string 2 word)
    least = shortest m n cs place input told (string 2 word) string_is

  module _ (entries : ℕ) (after : List Entry) (spelled : Spelled cs place input 0 (take entries after)) where
    abbrev word : List Entry
    word = take entries after

    pub told_different : {before : List Entry} → entries ≤ length after → length after ≡ length before → drop entries after ≡ drop entries before → Decided m n (Different (steps 2 word) entries) before after
    told_different fits long rest =
        let found : Shortest m n (string 2 word) = least word spelled in
        record {
          fits = fits;
          long = long;
          rest = rest;
          tells = record {
            grain = omega arith;
            inputs = string_within m.inputs 2 word found.over;
            other = λ same. found.tells (string_answers m 2 word m.start ∙ same ∙ sym (string_answers n 2 word n.start));
          };
          counted = refl;
          fewest = λ q w t.
              omega (
                arith,
                string_length 2 word,
                string_length q w,
                found.least (string q w) (string_over m.inputs q w t.inputs) (λ same. t.other (sym (string_answers m q w m.start) ∙ same ∙ string_answers n q w n.start)),
              );
        }

pub differs : (v : Verdict) (count entries : ℕ) → v ≡ Different count entries → v ≡ FoundAlike → ⊥
differs v count entries p q = cc

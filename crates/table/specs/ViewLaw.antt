-- A view of a lawful machine is lawful.
use Rattle.std.specs.Prelude.{ℕ, List}
use Rattle.table.specs.Meaning.{Meaning, Lawful}
use Rattle.table.specs.View.{AllOutputs, passed}

pub view_lawful : (m : Meaning) (es : List ℕ) → AllOutputs es → Lawful m → Lawful (record { count = m.count; inputs = m.inputs; start = m.start; tick = m.tick; take = λ s i. passed es (m.take s i) })
view_lawful m es small law = record {
  few_states = law.few_states;
  some_input = law.some_input;
  few_inputs = law.few_inputs;
  start_in = law.start_in;
  tick_in = law.tick_in;
  next_in = law.next_in;
  output_in = λ s i l k. small (m.take s i).1 (law.output_in s i l k);
}

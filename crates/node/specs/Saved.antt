-- A state is saved in words: this file has a node's buffers under a list of calls, and a history that goes on from what
-- was saved.
use Rattle.std.specs.Prelude.{ℕ, List}
use Rattle.base.specs.Fold.{folded}
use Rattle.histories.specs.History.{Call, release, step, lend, Past}
use Rattle.node.specs.Layout.{state_words, tally_words, state_in, tally_in}
use Rattle.node.specs.Calls.{release_on, step_on}

-- `Buffers` are the two buffers that a node keeps.
pub record Buffers : Type 0 where
  pub state : List ℕ
  pub tally : List ℕ

-- `called` is a call on the two buffers; a step that lends another tally lends that one's words.
abbrev pub called : Buffers → Call → Buffers
called m (release task demand) = record { state = (release_on m.state task demand).state; tally = m.tally }
called m step = record { state = (step_on m.state m.tally).state; tally = (step_on m.state m.tally).tally }
called m (lend t) = record { state = (step_on m.state (tally_words t)).state; tally = m.tally }

-- `called_all` is a list of calls on the two buffers.
abbrev pub called_all : Buffers → List Call → Buffers
called_all m calls = folded called m calls

-- A SAVE keeps the words of the state and of the tally.
abbrev pub saved : Past → Buffers
saved p = record { state = state_words p.state; tally = tally_words p.tally }

-- A RESTORE puts the state and the tally that the saved words encode in the place of those that were saved.
abbrev pub restored : Past → Past
restored p = record {
  state = state_in (saved p).state;
  tally = tally_in (saved p).tally;
  demands = p.demands;
  runs = p.runs;
  refusals = p.refusals;
  taken = p.taken;
  finishes = p.finishes;
}

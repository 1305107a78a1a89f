-- What a waking length does to a history is said here: in what two histories whose starts were given different ones may
-- differ, and what whole periods count.
use Rattle.std.specs.Prelude.{ℕ, ◌+◌, ◌-◌, ◌*◌, ◌≡◌}
use Rattle.scheduler.specs.declared.State.{State}
use Rattle.decisions.specs.declared.Tally.{Tally}
use Rattle.scheduler.specs.States.{with_waking}
use Rattle.histories.specs.History.{Past}

-- `with_split` is a past with another waking length in its state, and another tally.
abbrev pub with_split : Past → ℕ → Tally → Past
with_split p v t = record {
  state = with_waking p.state v;
  tally = t;
  demands = p.demands;
  runs = p.runs;
  refusals = p.refusals;
  taken = p.taken;
  finishes = p.finishes;
}

-- Two tallies differ at most in how the ticks of the slots are split into slot and waking ticks.
pub record SplitAlone (t u : Tally) : Type 0 where
  pub runs_same : u.run ≡ t.run
  pub tails_same : u.tail ≡ t.tail
  pub slots_same : u.slot + u.waking ≡ t.slot + t.waking

-- A tally beside a state has k whole periods' slot and waking ticks: S − V and V of each.
pub record WholePeriods (t : Tally) (s : State) (k : ℕ) : Type 0 where
  pub slots_are : t.slot ≡ k * (s.sleep.work - s.waking)
  pub wakings_are : t.waking ≡ k * s.waking

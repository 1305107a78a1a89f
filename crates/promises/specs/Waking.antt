-- WAKING COSTS MORE THAN SLEEPING stands here on one page: the record `Waking` has the user's words, each above the
-- fields that say it, and `waking` shows that all of it holds. V is the `waking` of a state, and of what a start is
-- given; S and H are the work and the period of the sleep record.
use Rattle.std.specs.Prelude.{ℕ, ◌+◌, ◌-◌, ◌*◌, ◌%◌, ◌≤◌, ◌<◌, ◌≡◌, refl, ◌↔◌, List, Ok, Err}
use Rattle.std.proofs.Common.{ap, sym, subst, ◌∙◌, inr, ⊎_elim, arith, add-mul, le-leb, lt-ltb}
use Rattle.std.proofs.lemmas.Bool.{lt-leb}
use Rattle.base.specs.List.{Each}
use Rattle.table.specs.declared.Refusal.{Refusal}
use Rattle.table.specs.declared.Refusal.TheVariants.{Unfit, Power, LongWaking}
use Rattle.table.specs.Bytes.{record_at}
use Rattle.table.specs.Rules.{SoundTable}
use Rattle.table.specs.Sound.{read_of}
use Rattle.table.proofs.LowestLaws.{number}
use Rattle.decisions.specs.declared.Tally.{Tally}
use Rattle.decisions.specs.declared.Tick.TheVariants.{Run, Slot, Tail}
use Rattle.decisions.specs.Fits.{clock_end, total}
use Rattle.decisions.specs.declared.Powers.{Powers}
use Rattle.decisions.specs.Energies.{power_most, powers, energy_in, energy_of}
use Rattle.scheduler.specs.declared.State.{State}
use Rattle.scheduler.specs.Starts.{Given, read_given, fresh_state, start_of, IsStarted}
use Rattle.scheduler.specs.States.{with_waking}
use Rattle.scheduler.specs.Lawful.{LawfulState}
use Rattle.scheduler.specs.Releases.{release_answer, release_of}
use Rattle.scheduler.specs.Steps.{step_of}
use Rattle.scheduler.proofs.AnswerLaws as laws
use Rattle.scheduler.proofs.ReleaseLaws.{release_answer_lem}
use Rattle.scheduler.proofs.GivenLaws.{given_says, given_startable, startable_given, started_reads}
use Rattle.histories.specs.History.{Call, Own, Past, after, begun, history}
use Rattle.histories.specs.Waking.{with_split, SplitAlone, WholePeriods}
use Rattle.histories.proofs.HistoryLaws.{kept_begun, history_kept}
use Rattle.histories.proofs.StillLaws.{started_or_still}
use Rattle.histories.proofs.WakingLaws.{release_same, total_same, steps_same, GoesSame, same_after, after_stays, tick_counts, none_after}
use Rattle.histories.proofs.PeriodLaws.{whole_periods}
use Rattle.promises.specs.Answers.{release_gets_6, step_gets_6}
use Rattle.promises.specs.Demand2.{demand_2}

-- `given` is what a start on a table with a waking length is given.
abbrev pub given : List ℕ → ℕ → Given
given table v = record { table = table; waking = v }

-- A step counts its tick: a run, a tail tick, and a slot tick by t mod H.
pub record CountsAre (s : State) (t : Tally) : Type 0 where
  pub run_counts : (k : ℕ) → (step_of s t).answer ≡ Ok (Run k)
      → (step_of s t).tally ≡ record { run = t.run + 1; slot = t.slot; tail = t.tail; waking = t.waking }
  pub tail_counts : (step_of s t).answer ≡ Ok Tail
      → (step_of s t).tally ≡ record { run = t.run; slot = t.slot; tail = t.tail + 1; waking = t.waking }
  pub waking_counts : (step_of s t).answer ≡ Ok Slot → s.sleep.work - s.waking ≤ s.clock % s.sleep.period
      → (step_of s t).tally ≡ record { run = t.run; slot = t.slot; tail = t.tail; waking = t.waking + 1 }
  pub slot_counts : (step_of s t).answer ≡ Ok Slot → s.clock % s.sleep.period < s.sleep.work - s.waking
      → (step_of s t).tally ≡ record { run = t.run; slot = t.slot + 1; tail = t.tail; waking = t.waking }

-- V changes nothing else: two histories with the same calls, on a table started with V = v and with V = w, agree in all
-- but V and the tally; their tallies agree in all but the split of the slots' ticks into the counts slot and waking; the
-- next release or step, whatever tally it lends, is answered alike, and leaves tallies that agree in the same way.
pub record NothingElse (table : List ℕ) (v w : ℕ) (calls : List Call) : Type 0 where
  pub all_but_the_split : history (given table w) calls ≡ with_split (history (given table v) calls) w (history (given table w) calls).tally
  pub the_split_alone : SplitAlone (history (given table v) calls).tally (history (given table w) calls).tally
  pub releases_alike : (task demand : ℕ)
      → (release_of (history (given table w) calls).state task demand).answer ≡ (release_of (history (given table v) calls).state task demand).answer
  pub steps_alike : (step_of (history (given table w) calls).state (history (given table w) calls).tally).answer
      ≡ (step_of (history (given table v) calls).state (history (given table v) calls).tally).answer
  pub lent_steps_alike : (t : Tally) → (step_of (history (given table w) calls).state t).answer ≡ (step_of (history (given table v) calls).state t).answer
  pub lent_tallies_split : (t : Tally) → SplitAlone (step_of (history (given table v) calls).state t).tally (step_of (history (given table w) calls).state t).tally

pub record Waking : Type 0 where
  -- "We want a waking length V, from 0 to S,
  pub fourteen_exactly : (g : Given) → ((start_of g).answer ≡ Err LongWaking) ↔ (((n : ℕ) × SoundTable g.table n) × ((record_at g.table 0).work < g.waking))
  -- and a waking power booked for its ticks." Where that is the sleep power, the split changes no energy.
  pub booked_at_its_power : (t : Tally) (ps : Powers) (nanojoules : ℕ) → energy_of t ps ≡ Ok nanojoules
      → nanojoules ≡ t.run * ps.run + t.slot * ps.sleep + t.tail * ps.sleep + t.waking * ps.waking
  pub same_power_same_energy : (t u : Tally) (run sleep : ℕ) → SplitAlone t u → energy_of u (powers run sleep sleep) ≡ energy_of t (powers run sleep sleep)
  -- "Slot ticks with t mod H at least S − V count as waking, not as slot;" So every whole period adds V to the one count
  -- and S − V to the other: at a boundary, k periods on.
  pub each_tick_is_counted : (s : State) (t : Tally) → CountsAre s t
  pub whole_periods_have : (g : Given) (k : ℕ) (calls : List Call) → IsStarted g → Each Own calls
      → (history g calls).state.clock ≡ k * (history g calls).state.sleep.period → WholePeriods (history g calls).tally (history g calls).state k
  -- "the four counts sum to the clock."
  pub four_counts_sum : (g : Given) (calls : List Call) → Each Own calls
      → let t = (history g calls).tally in t.run + t.slot + t.tail + t.waking ≡ (history g calls).state.clock
  -- "The step still answers a slot tick, also for demand 3." No answer of a release or a step, no entry and no clock
  -- depends on V. With V = 0 nothing is counted as waking, and with any V slot and waking together are what slot is then.
  pub nothing_else_changes : (table : List ℕ) (v w : ℕ) (calls : List Call) → IsStarted (given table v) → IsStarted (given table w) → NothingElse table v w calls
  pub none_at_zero : (table : List ℕ) (calls : List Call) → (history (given table 0) calls).tally.waking ≡ 0
  pub together_as_before : (g : Given) (calls : List Call) → IsStarted g
      → (history g calls).tally.slot + (history g calls).tally.waking ≡ (history (given g.table 0) calls).tally.slot
  -- "V is given at the start and kept in the state."
  pub kept_in_the_state : (g : Given) (calls : List Call) → IsStarted g → (history g calls).state.waking ≡ g.waking
  -- "Refusals: 14, V above S (record 0), after 4 at a start;
  pub after_four : (g : Given) (r : Refusal) → read_of g.table ≡ Err r → (start_of g).answer ≡ Err r
  -- 6 in a state;
  pub six_in_a_state : (s : State) (t : Tally) (task demand : ℕ) → s.sleep.work < s.waking
      → ((release_of s task demand).answer ≡ Err Unfit) × ((step_of s t).answer ≡ Err Unfit)
  -- 6 reads four counts;
  pub six_of_a_step : (s : State) (t : Tally) → (t.run + t.slot + t.tail + t.waking ≡ s.clock → ⊥) → (step_of s t).answer ≡ Err Unfit
  pub six_of_a_reading : (t : Tally) (ps : Powers) → clock_end < t.run + t.slot + t.tail + t.waking → energy_of t ps ≡ Err Unfit
  -- the waking power joins 13."
  pub joins_thirteen : (t : Tally) (ps : Powers) → t.run + t.slot + t.tail + t.waking ≤ clock_end → power_most < ps.waking
      → energy_of t ps ≡ Err Power

-- Two histories on one table with the same calls go the same way.
module _ (table : List ℕ) (v w n : ℕ) (calls : List Call) (e : read_given (given table v) ≡ Ok n) (f : read_given (given table w) ≡ Ok n) where
  abbrev p : Past
  p = after (begun (fresh_state (given table v) n)) calls

  abbrev q : Past
  q = after (begun (fresh_state (given table w) n)) calls

  G : GoesSame w p q
  G = same_after (begun (fresh_state (given table v) n)) (begun (fresh_state (given table w) n)) w calls (kept_begun (given table v) n e) (kept_begun (given table w) n f)
      (record { same = refl; split = record { runs_same = refl; tails_same = refl; slots_same = refl } })

  L : LawfulState p.state
  L = (history_kept (given table v) n calls e).lawful_state

  states : q.state ≡ with_waking p.state w
  states = ap {A = Past} (λ x. x.state) G.same

  M : LawfulState (with_waking p.state w)
  M = subst LawfulState states (history_kept (given table w) n calls f).lawful_state

  go_alike : NothingElse table v w calls
  go_alike = record {
    all_but_the_split = rw (e, f) G.same;
    the_split_alone = rw (e, f) G.split;
    releases_alike = λ task demand. rw (e, f)
        (release_answer_lem q.state task demand
        ∙ ap (λ (s : State). release_answer s task demand) states
        ∙ release_same p.state w task demand L M
        ∙ sym (release_answer_lem p.state task demand));
    steps_alike = rw (e, f)
        (ap (λ (s : State). (step_of s q.tally).answer) states
        ∙ (steps_same p.state w p.tally q.tally L M (total_same p.tally q.tally G.split)).answer_same);
    lent_steps_alike = λ t. rw (e, f)
        (ap (λ (s : State). (step_of s t).answer) states ∙ (steps_same p.state w t t L M refl).answer_same);
    lent_tallies_split = λ t. rw (e, f)
        (subst (λ (s : State). SplitAlone (step_of p.state t).tally (step_of s t).tally) (sym states)
        ((steps_same p.state w t t L M refl).split_kept (record { runs_same = refl; tails_same = refl; slots_same = refl })));
  }

alike : (table : List ℕ) (v w : ℕ) (calls : List Call) → IsStarted (given table v) → IsStarted (given table w) → NothingElse table v w calls
alike table v w calls a b =
    let r = started_reads (given table v) a in
    let s = started_reads (given table w) b in
    let x : Ok s.0 ≡ Ok r.0 = sym (given_says (given table w) s.0 s.1).0 ∙ (given_says (given table v) r.0 r.1).0 in
    let same : s.0 ≡ r.0 = cc in
    go_alike table v w r.0 calls r.1 (rw same at s.1)

-- With V = 0 no tick is a waking one.
none : (table : List ℕ) (calls : List Call) → (history (given table 0) calls).tally.waking ≡ 0
none table calls = ⊎_elim
    (λ ok. let r = started_reads (given table 0) ok in rw r.1 (none_after (begun (fresh_state (given table 0) r.0)) calls refl refl))
    (λ S. ap {A = Tally} (λ t. t.waking) S.tally_is)
    (started_or_still (given table 0) calls)

-- A start that is accepted with some V is accepted with V = 0.
zero_starts : (g : Given) → IsStarted g → IsStarted (given g.table 0)
zero_starts g ok =
    let r = started_reads g ok in
    rw (startable_given (given g.table 0) r.0 (record { sound = (given_startable g r.0 r.1).sound; waking_fits = omega arith }))

-- The energy of the slots' ticks does not depend on the split where both powers are the same.
same_energy : (t u : Tally) (run sleep : ℕ) → SplitAlone t u → energy_of u (powers run sleep sleep) ≡ energy_of t (powers run sleep sleep)
same_energy t u run sleep S =
    let sums : energy_in u (powers run sleep sleep) ≡ energy_in t (powers run sleep sleep) = omega (
      arith,
      add-mul u.slot u.waking sleep,
      add-mul t.slot t.waking sleep,
      ap (λ (x : ℕ). x * sleep) S.slots_same,
      ap (λ (x : ℕ). x * sleep) S.tails_same,
      ap (λ (x : ℕ). x * run) S.runs_same,
    ) in
    rw (total_same t u S, sums)

-- A waking power that is too strong is refused with 13.
thirteen : (t : Tally) (ps : Powers) → total t ≤ clock_end → power_most < ps.waking → energy_of t ps ≡ Err Power
thirteen t ps few strong = (laws.energy_refused_exactly t ps Power).1 (record {
  applies = inr (refl, inr (inr strong));
  none_lower = λ q lower a. ⊎_elim (λ u. omega (arith, u.1)) (λ u. omega (arith, ap number u.0)) a;
})

-- WAKING COSTS MORE, AND CHANGES NOTHING ELSE.
pub waking : Waking
unfolding read_given
waking = record {
  fourteen_exactly = laws.fourteen_exactly;
  booked_at_its_power = demand_2.what_is_reported_is_defined.energy_is;
  same_power_same_energy = same_energy;
  each_tick_is_counted = λ s t. record {
    run_counts = λ k e. tick_counts s t (Run k) e;
    tail_counts = tick_counts s t Tail;
    waking_counts = λ e l. tick_counts s t Slot e ∙ rw (le-leb _ _ l);
    slot_counts = λ e l. tick_counts s t Slot e ∙ rw (lt-leb _ _ l);
  };
  whole_periods_have = λ g k calls ok own clock.
      let r = started_reads g ok in
      rw r.1 (whole_periods g r.0 k calls r.1 own (rw r.1 at clock));
  four_counts_sum = demand_2.what_is_reported_is_defined.ticks_sum_to_the_clock;
  nothing_else_changes = alike;
  none_at_zero = none;
  together_as_before = λ g calls ok.
      let N = alike g.table g.waking 0 calls ok (zero_starts g ok) in
      omega (arith, N.the_split_alone.slots_same, none g.table calls);
  kept_in_the_state = λ g calls ok. let r = started_reads g ok in rw r.1 (after_stays (begun (fresh_state g r.0)) calls);
  after_four = λ g r e. rw e;
  six_in_a_state = λ s t task demand l. (
    (release_gets_6 s task demand).1 (λ L. omega (arith, L.waking_fits)),
    (step_gets_6 s t).1 (λ K. omega (arith, K.lawful_state.waking_fits)),
  );
  six_of_a_step = λ s t not. (step_gets_6 s t).1 (λ K. not K.counted);
  six_of_a_reading = λ t ps l. rw (lt-ltb _ _ l);
  joins_thirteen = thirteen;
}

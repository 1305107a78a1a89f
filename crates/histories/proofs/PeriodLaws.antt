-- Every whole period has V waking ticks and S − V slot ticks. Along a history that lends its own tally alone, r ticks
-- into period q the counts are those of q whole periods and of the part of the slot that r ticks have passed. A tick in
-- the slot moves r on by one within the period, since S is below H; another moves it on too, or ends the period.
use Rattle.std.specs.Prelude.{Result, Ok, Err}
use Prim.Native.Nat.{ℕ, ◌+◌, ◌-◌, ◌*◌, ◌%◌, ◌≤◌, ◌<◌}
use mathlib.Core.Path.{◌≡◌, refl, ap, sym, ◌∙◌}
use mathlib.Core.List.{List}
use mathlib.Core.Bool.{Bool, true, false, cond}
use native.Mathlib.Omega.{arith}
use native.Mathlib.Nat.{add-mul, one-mul, mul-add-mod_self_right, mul-mod_left, mod-eq_of_lt, eq_of_mul-eq-mul_right}
use borrow.Author.Tests.{leb-true, leb-false}
use Rattle.base.specs.List.{Each}
use Rattle.base.proofs.Split.{by_lt}
use Rattle.table.specs.declared.Refusal.{Refusal}
use Rattle.decisions.specs.declared.Tally.{Tally}
use Rattle.decisions.specs.declared.Tick.TheVariants.{Run, Slot}
use Rattle.decisions.specs.declared.Count.TheVariants.{Runs, Slots, Tails, Wakings}
use Rattle.decisions.specs.Ticks.{wakes, count_of}
use Rattle.scheduler.specs.declared.State.{State}
use Rattle.scheduler.specs.States.{head_of, aged, record_in}
use Rattle.scheduler.specs.Starts.{Given, read_given, fresh_state}
use Rattle.scheduler.specs.Releases.{release_answer}
use Rattle.scheduler.specs.Steps.{first_ready, tick_of, after_tick, raised}
use Rattle.scheduler.proofs.TickLaws.{TickIs, slots, runs, tails, tick_is}
use Rattle.scheduler.proofs.StepLaws.{StepIs, moves, stays, step_is}
use Rattle.histories.specs.History.{Call, release, step, lend, Own, Past, next, after, begun}
use Rattle.histories.specs.Waking.{WholePeriods}
use Rattle.histories.proofs.HistoryLaws.{Kept, own_after, kept_begun}

-- Of the first r ticks of a period, those below d are slot ticks, and those from d on and below S waking ticks; d is
-- S − V.
unfoldable slots_in : ℕ → ℕ → ℕ
slots_in d r = r - (r - d)

unfoldable wakings_in : ℕ → ℕ → ℕ → ℕ
wakings_in d S r = r - d - (r - S)

slots_none : (d : ℕ) → slots_in d 0 ≡ 0
unfolding slots_in
slots_none d = omega arith

slot_up : (d r : ℕ) → r < d → slots_in d (r + 1) ≡ slots_in d r + 1
unfolding slots_in
slot_up d r l = omega arith

slots_all : (d r : ℕ) → d ≤ r → slots_in d r ≡ d
unfolding slots_in
slots_all d r l = omega arith

waking_none : (d S r : ℕ) → d ≤ S → r ≤ d → wakings_in d S r ≡ 0
unfolding wakings_in
waking_none d S r m l = omega arith

waking_up : (d S r : ℕ) → d ≤ r → r < S → wakings_in d S (r + 1) ≡ wakings_in d S r + 1
unfolding wakings_in
waking_up d S r m l = omega arith

wakings_all : (d S r : ℕ) → d ≤ S → S ≤ r → wakings_in d S r ≡ S - d
unfolding wakings_in
wakings_all d S r m l = omega arith

-- The counts of a tally are those of q periods and r ticks, which make the clock.
record Phase (t : Tally) (s : State) : Type 0 where
  periods : ℕ
  rest : ℕ
  within : rest < s.sleep.period
  clock_is : s.clock ≡ periods * s.sleep.period + rest
  slot_is : t.slot ≡ periods * (s.sleep.work - s.waking) + slots_in (s.sleep.work - s.waking) rest
  waking_is : t.waking ≡ periods * s.waking + wakings_in (s.sleep.work - s.waking) s.sleep.work rest

module _ (t : Tally) (s : State) (room : s.sleep.work < s.sleep.period) (fits : s.waking ≤ s.sleep.work) (P : Phase t s) where
  -- The clock is r ticks after the last boundary.
  since : s.clock % s.sleep.period ≡ P.rest
  since = ap (λ (c : ℕ). c % s.sleep.period) P.clock_is ∙ mul-add-mod_self_right P.periods s.sleep.period P.rest ∙ mod-eq_of_lt P.within

  -- One period more is one time more its ticks.
  one_more : (x : ℕ) → (P.periods + 1) * x ≡ P.periods * x + x
  one_more x = add-mul P.periods 1 x ∙ ap (λ (y : ℕ). P.periods * x + y) (one-mul x)

  -- So many slot ticks has a whole slot.
  abbrev d : ℕ
  d = s.sleep.work - s.waking

  -- A tick in the slot raises the count that r says.
  slot_on : s.clock % s.sleep.period < s.sleep.work → Phase (raised t (count_of (head_of s) Slot)) (aged s)
  slot_on low = go (wakes (head_of s)) refl
    where
      r : P.rest < s.sleep.work
      r = omega (arith, since)

      go : (b : Bool) → wakes (head_of s) ≡ b → Phase (raised t (cond b Wakings Slots)) (aged s)
      go true q =
          let late : d ≤ P.rest = rw since at (leb-true d (s.clock % s.sleep.period) q) in
          record {
            periods = P.periods;
            rest = P.rest + 1;
            within = omega (arith, r);
            clock_is = omega (arith, P.clock_is);
            slot_is = omega (arith, P.slot_is, slots_all d P.rest late, slots_all d (P.rest + 1) (omega arith));
            waking_is = omega (arith, P.waking_is, waking_up d s.sleep.work P.rest late r);
          }
      go false q =
          let soon : P.rest < d = rw since at (leb-false d (s.clock % s.sleep.period) q) in
          record {
            periods = P.periods;
            rest = P.rest + 1;
            within = omega (arith, r);
            clock_is = omega (arith, P.clock_is);
            slot_is = omega (arith, P.slot_is, slot_up d P.rest soon);
            waking_is = omega (arith, P.waking_is, waking_none d s.sleep.work P.rest (omega arith) (omega arith), waking_none d s.sleep.work (P.rest + 1) (omega arith) (omega arith));
          }

  -- A tick after the slot raises neither count; it may be the last of its period.
  past_on : (u : Tally) (s' : State) → u.slot ≡ t.slot → u.waking ≡ t.waking → s'.sleep ≡ s.sleep → s'.waking ≡ s.waking → s'.clock ≡ s.clock + 1
      → s.sleep.work ≤ s.clock % s.sleep.period → Phase u s'
  past_on u s' es ew zs zw zc high = by_lt (P.rest + 1) s.sleep.period (Phase u s')
      (λ l. record {
        periods = P.periods;
        rest = P.rest + 1;
        within = rw zs l;
        clock_is = rw zs (omega (arith, zc, P.clock_is));
        slot_is = rw (zs, zw) (omega (arith, es, P.slot_is, slots_now, slots_all d (P.rest + 1) (omega (arith, over))));
        waking_is = rw (zs, zw) (omega (arith, ew, P.waking_is, wakings_now, wakings_all d s.sleep.work (P.rest + 1) (omega arith) (omega (arith, over))));
      })
      (λ g. record {
        periods = P.periods + 1;
        rest = 0;
        within = rw zs (omega (arith, room));
        clock_is = rw zs (omega (arith, zc, P.clock_is, P.within, one_more s.sleep.period));
        slot_is = rw (zs, zw) (omega (arith, es, P.slot_is, slots_now, one_more d, slots_none d));
        waking_is = rw (zs, zw) (omega (arith, ew, P.waking_is, wakings_now, one_more s.waking, waking_none d s.sleep.work 0 (omega arith) (omega arith)));
      })
    where
      over : s.sleep.work ≤ P.rest
      over = rw since at high

      slots_now : slots_in d P.rest ≡ d
      slots_now = slots_all d P.rest (omega (arith, over))

      wakings_now : wakings_in d s.sleep.work P.rest ≡ s.waking
      wakings_now = wakings_all d s.sleep.work P.rest (omega arith) over ∙ (let e : s.sleep.work - d ≡ s.waking = omega (arith, fits) in e)

  phase_tick : Phase (raised t (count_of (head_of s) (tick_of s))) (after_tick s (tick_of s))
  phase_tick = go (tick_is s)
    where
      go : TickIs s → Phase (raised t (count_of (head_of s) (tick_of s))) (after_tick s (tick_of s))
      go (slots a e) = rw e (slot_on a)
      go (tails a b e) = rw e (past_on (raised t Tails) (aged s) refl refl refl refl refl a)
      go (runs a b e) = rw e (past_on (raised t Runs) (after_tick s (Run (first_ready s + 1))) refl refl refl refl refl a)

-- Every call that lends no other tally keeps the phase.
phase_next : (p : Past) (call : Call) → Own call → Kept p → Phase p.tally p.state → Phase (next p call).tally (next p call).state
unfolding next record_in
phase_next p (release task demand) own K P = go (release_answer p.state task demand) refl
  where
    go : (a : Result (Unit {0}) Refusal) → release_answer p.state task demand ≡ a → Phase (next p (release task demand)).tally (next p (release task demand)).state
    go (Ok tt) q = rw q (record { periods = P.periods; rest = P.rest; within = P.within; clock_is = P.clock_is; slot_is = P.slot_is; waking_is = P.waking_is })
    go (Err r) q = rw q P
phase_next p step own K P = go (step_is p.state p.tally)
  where
    go : StepIs p.state p.tally → Phase (next p step).tally (next p step).state
    go (moves m q) = rw q (phase_tick p.tally p.state K.lawful_state.set.room K.lawful_state.waking_fits P)
    go (stays r q) = rw q P
phase_next p (lend t) own K P = absurd own

-- EVERY WHOLE PERIOD has S − V slot ticks and V waking ticks.
phase_whole : (t : Tally) (s : State) (k : ℕ) → Phase t s → s.clock ≡ k * s.sleep.period → WholePeriods t s k
unfolding slots_in wakings_in
phase_whole t s k P e = record {
  slots_are = P.slot_is ∙ rw (none, same) (omega arith);
  wakings_are = P.waking_is ∙ rw (none, same) (omega arith);
}
  where
    h : ℕ
    h = s.sleep.period

    none : P.rest ≡ 0
    none = sym (mul-add-mod_self_right P.periods h P.rest ∙ mod-eq_of_lt P.within) ∙ ap (λ (c : ℕ). c % h) (sym P.clock_is ∙ e) ∙ mul-mod_left k h

    same : P.periods ≡ k
    same = eq_of_mul-eq-mul_right h (omega (arith, P.within)) P.periods k (omega (arith, P.clock_is, none, e))

-- It holds of every history from a fresh start that lends its own tally alone, at each boundary.
pub whole_periods : (g : Given) (n k : ℕ) (calls : List Call) → read_given g ≡ Ok n → Each Own calls
    → let p = after (begun (fresh_state g n)) calls in p.state.clock ≡ k * p.state.sleep.period → WholePeriods p.tally p.state k
unfolding slots_in wakings_in record_in
whole_periods g n k calls e own =
    let K = kept_begun g n e in
    phase_whole (after (begun (fresh_state g n)) calls).tally (after (begun (fresh_state g n)) calls).state k
    (own_after (λ (p : Past). Phase p.tally p.state) phase_next (begun (fresh_state g n)) calls own K (record {
      periods = 0;
      rest = 0;
      within = omega (arith, K.lawful_state.set.room);
      clock_is = omega arith;
      slot_is = omega arith;
      waking_is = omega arith;
    }))

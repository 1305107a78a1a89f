-- A fresh state of a start holds the table and keeps the rules; the state of a refused start keeps none.
use Rattle.std.specs.Prelude.{Ok, Err, None}
use Prim.Native.Nat.{ℕ, zero, suc, ◌+◌, ◌≤◌, ◌<◌}
use mathlib.Core.Path.{◌≡◌, refl, ap, ◌∙◌}
use mathlib.Core.List.{List}
use native.Mathlib.Numerals.{add-one}
use native.Mathlib.Omega.{arith}
use lib.ListN.{length, get_or, set, length-set, get_or-replicate}
use lib.Seq.{get_or-set_same, get_or-set_other}
use Rattle.base.proofs.Split.{by_lt, by_eq}
use Rattle.table.specs.declared.Refusal.TheVariants as refusal
use Rattle.table.specs.Bytes.{record_at}
use Rattle.table.specs.Sound.{places}
use Rattle.table.proofs.SetLaws.{set_same}
use Rattle.decisions.specs.declared.Job.TheVariants.{Resting}
use Rattle.decisions.specs.declared.Entry.{Entry}
use Rattle.decisions.specs.declared.Tally.{Tally}
use Rattle.decisions.specs.Fits.{no_entry}
use Rattle.scheduler.specs.States.{entry_in, record_in, state_fits, entries_of}
use Rattle.scheduler.specs.Lawful.{LawfulTask, LawfulState}
use Rattle.scheduler.specs.Starts.{Given, read_given, fresh_state, no_state}
use Rattle.scheduler.specs.Applies.{Startable}
use Rattle.scheduler.specs.Releases.{release_answer, release_of}
use Rattle.scheduler.specs.Steps.{step_of}
use Rattle.scheduler.proofs.PlaceLaws.{Sized}
use Rattle.scheduler.proofs.GivenLaws.{given_startable}

-- The state that a refused start hands back keeps no rules: every step and release refuses it with 6.
pub no_state_refused : (task demand : ℕ) (t : Tally) → ((release_of no_state task demand).answer ≡ Err refusal.Unfit) × ((step_of no_state t).answer ≡ Err refusal.Unfit)
unfolding release_answer step_of state_fits
no_state_refused task demand t = (refl, refl)

-- A fresh state has all its places, the tasks' and spare ones.
entries_size : (table : List ℕ) (n : ℕ) → length (entries_of table n) ≡ places
unfolding entries_of
entries_size table zero = refl
entries_size table (suc n) = length-set (entries_of table n) n _ ∙ entries_size table n

-- A fresh place holds its task's record, rests and was never released.
abbrev pub fresh_entry : List ℕ → ℕ → Entry
fresh_entry table i = record { task = record_at table (i + 1); job = Resting; last = None }

entries_at : (table : List ℕ) (n i : ℕ) → n ≤ places → i < n → get_or (entries_of table n) i no_entry ≡ fresh_entry table i
unfolding entries_of
entries_at table zero i m l = absurd (let z : ⊥ = omega arith in z)
entries_at table (suc n) i m l = by_eq i n (get_or (set (entries_of table n) n (fresh_entry table n)) i no_entry ≡ fresh_entry table i)
    (λ q. rw q (get_or-set_same (entries_of table n) n (fresh_entry table n) no_entry (omega (arith, entries_size table n))))
    (λ d. get_or-set_other (entries_of table n) n i (fresh_entry table n) no_entry d ∙ entries_at table n i (omega arith) (omega arith))

entries_spare : (table : List ℕ) (n i : ℕ) → n ≤ i → i < places → get_or (entries_of table n) i no_entry ≡ no_entry
unfolding entries_of
entries_spare table zero i m l = get_or-replicate places i no_entry no_entry l
entries_spare table (suc n) i m l =
    get_or-set_other (entries_of table n) n i (fresh_entry table n) no_entry (λ q. omega arith) ∙ entries_spare table n i (omega arith) l

pub fresh_entry_lem : (g : Given) (n i : ℕ) → n ≤ places → i < n → entry_in (fresh_state g n) i ≡ fresh_entry g.table i
fresh_entry_lem g = entries_at g.table

-- Every place of a fresh state rests and was never released.
pub fresh_rests : (g : Given) (n i : ℕ) → n ≤ places → i < places
    → ((entry_in (fresh_state g n) i).job ≡ Resting) × ((entry_in (fresh_state g n) i).last ≡ None)
fresh_rests g n i few l =
    by_lt i n (((entry_in (fresh_state g n) i).job ≡ Resting) × ((entry_in (fresh_state g n) i).last ≡ None))
    (λ lt. rw (entries_at g.table n i few lt) (refl, refl))
    (λ ge. rw (entries_spare g.table n i ge l) (refl, refl))

-- The records of a fresh state are the table's.
pub fresh_record : (g : Given) (n k : ℕ) → n ≤ places → k ≤ n → record_in (fresh_state g n) k ≡ record_at g.table k
unfolding record_in
fresh_record g n zero few l = refl
fresh_record g n (suc i) few l = ap {A = Entry} (λ x. x.task) (entries_at g.table n i few (omega arith)) ∙ ap (record_at g.table) (add-one i)

-- A FRESH STATE KEEPS THE RULES.
pub fresh_lawful : (g : Given) (n : ℕ) → read_given g ≡ Ok n → Sized (fresh_state g n) × LawfulState (fresh_state g n)
fresh_lawful g n e = (
  entries_size g.table n,
  record {
    set = set_same (record_at g.table) (record_in (fresh_state g n)) n (λ k l. fresh_record g n k few l) S.sound.set;
    few = few;
    in_time = omega arith;
    waking_fits = S.waking_fits;
    task = task;
    spare = λ i p l. entries_spare g.table n i p l;
  },
)
  where
    S : Startable g n
    S = given_startable g n e

    few : n ≤ places
    few = S.sound.few

    task : (i : ℕ) → i < n → LawfulTask (fresh_state g n) i
    task i l =
        let R = fresh_rests g n i few (omega (arith, few)) in
        record {
          last_fits = λ a q. let z : ◌≡◌ {A = ℕ} 0 1 = cc R.1 in absurd (let y : ⊥ = omega arith in y);
          job_fits = λ a m q. let z : ◌≡◌ {A = ℕ} 0 1 = cc R.0 in absurd (let y : ⊥ = omega arith in y);
        }

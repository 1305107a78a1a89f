-- Where a state changes in one place, its table stays, and it keeps its rules where the changed place does.
use Rattle.std.specs.Prelude.{Some}
use Prim.Native.Nat.{ℕ, zero, suc, ◌≤◌, ◌<◌}
use mathlib.Core.Path.{◌≡◌, ap, sym, subst, ◌∙◌}
use mathlib.Core.Logic.{◌≢◌}
use mathlib.Core.Bool.{true}
use native.Mathlib.Omega.{arith}
use lib.ListN.{length, set, length-set}
use lib.Seq.{get_or-set_same, get_or-set_other}
use Rattle.base.proofs.Split.{by_eq}
use Rattle.table.specs.Sound.{places}
use Rattle.table.specs.Times.{release_time}
use Rattle.table.specs.Rules.{SoundSet}
use Rattle.table.proofs.SetLaws.{set_same}
use Rattle.decisions.specs.declared.Job.TheVariants.{Working}
use Rattle.decisions.specs.declared.Entry.{Entry}
use Rattle.scheduler.specs.declared.State.{State}
use Rattle.decisions.specs.Fits.{clock_end, no_entry}
use Rattle.scheduler.specs.States.{entry_in, record_in}
use Rattle.scheduler.specs.Lawful.{LawfulTask, LawfulState}

-- A state has its 16 places (as every state of the code has).
abbrev pub Sized : State → Type 0
Sized s = length s.entries ≡ places

-- A state s' has the places of s but one, at which the record is the same.
pub record OnePlace (s s' : State) (j : ℕ) (e : Entry) : Type 0 where
  pub sleep_same : s'.sleep ≡ s.sleep
  pub n_same : s'.n ≡ s.n
  pub waking_same : s'.waking ≡ s.waking
  pub here : entry_in s' j ≡ e
  pub there : (i : ℕ) → i ≢ j → entry_in s' i ≡ entry_in s i
  pub task_same : e.task ≡ (entry_in s j).task
  pub sized : Sized s'

-- A change of one place leaves the records as they stood.
pub task_stays : (s s' : State) (j : ℕ) (e : Entry) → OnePlace s s' j e → (i : ℕ) → (entry_in s' i).task ≡ (entry_in s i).task
task_stays s s' j e O i = by_eq i j ((entry_in s' i).task ≡ (entry_in s i).task)
    (λ q. rw q (ap {A = Entry} (λ x. x.task) O.here ∙ O.task_same))
    (λ n. ap {A = Entry} (λ x. x.task) (O.there i n))

record_stays : (s s' : State) (j : ℕ) (e : Entry) → OnePlace s s' j e → (k : ℕ) → record_in s' k ≡ record_in s k
unfolding record_in
record_stays s s' j e O zero = O.sleep_same
record_stays s s' j e O (suc i) = task_stays s s' j e O i

-- `Keeps` is what is asked of the changed place: its last release and its job keep their rules at the new clock.
pub record Keeps (s s' : State) (j : ℕ) (e : Entry) : Type 0 where
  pub place : OnePlace s s' j e
  pub a_task : j < s.n
  pub on_time : s.clock ≤ s'.clock
  pub in_time : s'.clock ≤ clock_end
  pub last_fits : (a : ℕ) → e.last ≡ Some a → (a ≤ s'.clock) × (release_time s.sleep.period j a ≡ true)
  pub job_fits : (a l : ℕ) → e.job ≡ Working a l → (1 ≤ l) × (l ≤ (entry_in s j).task.work) × (e.last ≡ Some a)

-- Where the changed place keeps its rules, the whole state does.
pub keeps_lawful : (s s' : State) (j : ℕ) (e : Entry) → LawfulState s → Keeps s s' j e → LawfulState s'
keeps_lawful s s' j e L K = record {
  set = subst (SoundSet (record_in s')) (sym P.n_same) (set_same (record_in s) (record_in s') s.n (λ k l. record_stays s s' j e P k) L.set);
  few = rw P.n_same L.few;
  in_time = K.in_time;
  waking_fits = rw (P.waking_same, P.sleep_same) L.waking_fits;
  task = λ i l. by_eq i j (LawfulTask s' i)
      (λ q. rw q here)
      (λ n. other i n (L.task i (rw P.n_same at l)));
  spare = λ i g l.
      let g' : s.n ≤ i = rw P.n_same at g in
      P.there i (λ q. omega (arith, K.a_task)) ∙ L.spare i g' l;
}
  where
    P : OnePlace s s' j e
    P = K.place

    here : LawfulTask s' j
    here = record {
      last_fits = λ a q. rw P.sleep_same (K.last_fits a (rw P.here at q));
      job_fits = λ a l q. rw (P.here, P.task_same) (K.job_fits a l (rw P.here at q));
    }

    other : (i : ℕ) → i ≢ j → LawfulTask s i → LawfulTask s' i
    other i n O = record {
      last_fits = λ a q.
          let f = O.last_fits a (rw (P.there i n) at q) in
          (omega (arith, f.0, K.on_time), rw P.sleep_same f.1);
      job_fits = λ a l q. rw (P.there i n) (O.job_fits a l (rw (P.there i n) at q));
    }

-- A state whose entries have one place set differs in that one place.
pub set_place : (s s' : State) (j : ℕ) (e : Entry) → Sized s → j < places → s'.sleep ≡ s.sleep → s'.n ≡ s.n → s'.waking ≡ s.waking → s'.entries ≡ set s.entries j e
    → e.task ≡ (entry_in s j).task → OnePlace s s' j e
set_place s s' j e size l es en ew ee et = record {
  sleep_same = es;
  n_same = en;
  waking_same = ew;
  here = rw ee (get_or-set_same s.entries j e no_entry (rw size l));
  there = λ i n. rw ee (get_or-set_other s.entries j i e no_entry n);
  task_same = et;
  sized = rw ee (length-set s.entries j e ∙ size);
}

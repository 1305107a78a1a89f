-- RULES 14.12: for every input, any two results that the contract of a public function allows are equal, and so is what
-- they leave in every lent buffer.
-- The hypotheses are the contract itself, as the kit hands it to whoever calls the function: `Asked` is what a caller
-- has to show, `Learnt` what it learns of the result and of the parameters at exit. So an `ensures` that is weakened or
-- removed in src/, or a `requires` that is added there, is refused here.
-- Every public function stands here once, in the order of its crate; `tools/settled` names one that does not.
use Rattle.std.specs.Prelude.{ℕ, ◌≡◌, refl}
use Rattle.std.proofs.Common.{sym, ◌∙◌}
use contract.Lifetimes.{Lfts}
use denote.Param.Laws.{Laws}
use denote.RattleType.{RattleType}
use denote.Triple.Entry.{Args, Res}
use denote.Triple.Clauses.{Ended, Lasts, AtExit, at_exit}
use mathlib.Core.List.{Mem}
use mir.Syntax.{Dict}
use Rattle.table.proofs as table
use Rattle.table.specs.contracts as table_contracts
use Rattle.admission.proofs as admission
use Rattle.admission.specs.contracts as admission_contracts
use Rattle.decisions.specs.declared.Places.{Ghosts}
use Rattle.decisions.proofs as decisions
use Rattle.decisions.specs.contracts as decisions_contracts
use Rattle.scheduler.proofs as scheduler
use Rattle.scheduler.specs.contracts as scheduler_contracts
use Rattle.texts.proofs as texts
use Rattle.texts.specs.contracts as texts_contracts
use Rattle.node.proofs as node
use Rattle.node.specs.contracts as node_contracts

-- A contract over a signature f has two halves: κs are its lifetimes, a its arguments, x its result, s its parameters
-- at exit.
module _ (f : Ended) where
  abbrev pub Asks : Type 1
  Asks = (κs : Lfts f.signature.lifetimes) → Args f.signature κs → Type 0

  abbrev pub Tells : Type 1
  Tells = (κs : Lfts f.signature.lifetimes) (a : Args f.signature κs) (x : Res f.signature κs) (s : AtExit f κs) → Type 0

  -- Any arguments may be passed; and any two results x and y that a caller may learn of are equal, as are v and w, what
  -- is left in the lent buffers with each.
  abbrev pub Settles : Asks → Tells → Type 0
  Settles Asked Learnt =
      (κs : Lfts f.signature.lifetimes) (a : Args f.signature κs) →
      Asked κs a × ((x y : Res f.signature κs) (v w : Lasts f κs a) → Learnt κs a x (at_exit f κs a v) → Learnt κs a y (at_exit f κs a w) → (x ≡ y) × (v ≡ w))

  -- A contract over a type parameter asks besides that the type lives as long as the call: `Lives` is that fact.
  abbrev pub SettlesWhere : Asks → Asks → Tells → Type 0
  SettlesWhere Lives Asked Learnt =
      (κs : Lfts f.signature.lifetimes) (a : Args f.signature κs) →
      (Lives κs a → Asked κs a) × ((x y : Res f.signature κs) (v w : Lasts f κs a) → Learnt κs a x (at_exit f κs a v) → Learnt κs a y (at_exit f κs a w) → (x ≡ y) × (v ≡ w))

-- THE LAW: a contract that asks nothing, and gives the result and what is left by one definition each, settles them.
settled : {A B : Type 0} {Allowed : A → B → Type 0} {promised : A} {left : B} → ((x : A) (v : B) → Allowed x v → (x ≡ promised) × (v ≡ left)) → Unit {0} × ((x y : A) (v w : B) → Allowed x v → Allowed y w → (x ≡ y) × (v ≡ w))
settled given = (tt, λ x y v w p q. ((given x v p).0 ∙ sym (given y w q).0, (given x v p).1 ∙ sym (given y w q).1))

-- The public functions of crate table are settled.
read : Settles table_contracts.read.ended table.read.Reads.Asked table.read.Reads.Learnt
read κs a = settled (λ x v p. (p, refl))

records_in : Settles table_contracts.records_in.ended table.records_in.Reads.Asked table.records_in.Reads.Learnt
records_in κs a = settled (λ x v p. (p, refl))

record_at : Settles table_contracts.record_at.ended table.record_at.Reads.Asked table.record_at.Reads.Learnt
record_at κs a = settled (λ x v p. (p, refl))

word_at : Settles table_contracts.word_at.ended table.word_at.Reads.Asked table.word_at.Reads.Learnt
word_at κs a = settled (λ x v p. (p, refl))

record_bytes : Settles table_contracts.record_bytes.ended table.record_bytes.Reads.Asked table.record_bytes.Reads.Learnt
record_bytes κs a = settled (λ x v p. (p, refl))

record_fits : Settles table_contracts.record_fits.ended table.record_fits.Reads.Asked table.record_fits.Reads.Learnt
record_fits κs a = settled (λ x v p. (p, refl))

sleep_fits : Settles table_contracts.sleep_fits.ended table.sleep_fits.Reads.Asked table.sleep_fits.Reads.Learnt
sleep_fits κs a = settled (λ x v p. (p, refl))

release_time : Settles table_contracts.release_time.ended table.release_time.Reads.Asked table.release_time.Reads.Learnt
release_time κs a = settled (λ x v p. (p, refl))

no_window : Settles table_contracts.no_window.ended table.no_window.Reads.Asked table.no_window.Reads.Learnt
no_window κs a = settled (λ x v p. (p, refl))

told : Settles table_contracts.ToldFromRefusal.from.ended table.ToldFromRefusal.from.Reads.Asked table.ToldFromRefusal.from.Reads.Learnt
told κs a = settled (λ x v p. (p, refl))

-- The public function of crate admission is settled.
pub admit : Settles admission_contracts.admit.ended admission.admit.Reads.Asked admission.admit.Reads.Learnt
admit κs a = settled (λ x v p. (p, refl))

-- The public functions of crate scheduler are settled: the answer and the state handed back stand in one result, and
-- `step` is lent the tally besides.
pub start : Settles scheduler_contracts.start.ended scheduler.start.Reads.Asked scheduler.start.Reads.Learnt
start κs a = settled (λ x v p. (p, refl))

entry : Settles scheduler_contracts.StatePlaces.entry.ended scheduler.StatePlaces.entry.Reads.Asked scheduler.StatePlaces.entry.Reads.Learnt
entry κs a = settled (λ x v p. (p, refl))

pub release : Settles scheduler_contracts.release.ended scheduler.release.Reads.Asked scheduler.release.Reads.Learnt
release κs a = settled (λ x v p. (p, refl))

pub step : Settles scheduler_contracts.step.ended scheduler.step.Reads.Asked scheduler.step.Reads.Learnt
step κs a = settled (λ x v p. (p.0, λ i. (tt, (p.1 i, tt))))

step_on : Settles scheduler_contracts.step_on.ended scheduler.step_on.Reads.Asked scheduler.step_on.Reads.Learnt
step_on κs a = settled (λ x v p. (p, refl))

-- The public functions of crate decisions are settled.
pub energy : Settles decisions_contracts.energy.ended decisions.energy.Reads.Asked decisions.energy.Reads.Learnt
energy κs a = settled (λ x v p. (p, refl))

nanojoules : Settles decisions_contracts.nanojoules.ended decisions.nanojoules.Reads.Asked decisions.nanojoules.Reads.Learnt
nanojoules κs a = settled (λ x v p. (p, refl))

waking_fits : Settles decisions_contracts.waking_fits.ended decisions.waking_fits.Reads.Asked decisions.waking_fits.Reads.Learnt
waking_fits κs a = settled (λ x v p. (p, refl))

head_fits : Settles decisions_contracts.head_fits.ended decisions.head_fits.Reads.Asked decisions.head_fits.Reads.Learnt
head_fits κs a = settled (λ x v p. (p, refl))

place_fits : Settles decisions_contracts.place_fits.ended decisions.place_fits.Reads.Asked decisions.place_fits.Reads.Learnt
place_fits κs a = settled (λ x v p. (p, refl))

tally_fits : Settles decisions_contracts.tally_fits.ended decisions.tally_fits.Reads.Asked decisions.tally_fits.Reads.Learnt
tally_fits κs a = settled (λ x v p. (p, refl))

may_release : Settles decisions_contracts.may_release.ended decisions.may_release.Reads.Asked decisions.may_release.Reads.Learnt
may_release κs a = settled (λ x v p. (p, refl))

may_step : Settles decisions_contracts.may_step.ended decisions.may_step.Reads.Asked decisions.may_step.Reads.Learnt
may_step κs a = settled (λ x v p. (p, refl))

in_slot : Settles decisions_contracts.in_slot.ended decisions.in_slot.Reads.Asked decisions.in_slot.Reads.Learnt
in_slot κs a = settled (λ x v p. (p, refl))

last_boundary : Settles decisions_contracts.last_boundary.ended decisions.last_boundary.Reads.Asked decisions.last_boundary.Reads.Learnt
last_boundary κs a = settled (λ x v p. (p, refl))

next_tick : (P : RattleType) (L : Laws P) (G : Ghosts P.Denot) (d : Dict)
    → SettlesWhere (decisions_contracts.next_tick.ended P G d) (λ κs a. (k : ℕ) → Mem k P.lives → Mem k κs.1.0) (decisions.next_tick.Reads.Asked P L G d) (decisions.next_tick.Reads.Learnt P L G d)
next_tick P L G d κs a = (λ lives. lives, (settled (λ x v p. (p, refl))).1)

run_or_tail : Settles decisions_contracts.run_or_tail.ended decisions.run_or_tail.Reads.Asked decisions.run_or_tail.Reads.Learnt
run_or_tail κs a = settled (λ x v p. (p, refl))

count_of : Settles decisions_contracts.count_of.ended decisions.count_of.Reads.Asked decisions.count_of.Reads.Learnt
count_of κs a = settled (λ x v p. (p, refl))

came_by : Settles decisions_contracts.came_by.ended decisions.came_by.Reads.Asked decisions.came_by.Reads.Learnt
came_by κs a = settled (λ x v p. (p, refl))

worked : Settles decisions_contracts.worked.ended decisions.worked.Reads.Asked decisions.worked.Reads.Learnt
worked κs a = settled (λ x v p. (p, refl))

-- The public function of crate texts is settled.
listing : Settles texts_contracts.listing.ended texts.listing.Reads.Asked texts.listing.Reads.Learnt
listing κs a = settled (λ x v p. (p, refl))

-- The public functions of crate node are settled: the answer, and what is left in each lent buffer.
pub node_admit : Settles node_contracts.node_admit.ended node.node_admit.Reads.Asked node.node_admit.Reads.Learnt
node_admit κs a = settled (λ x v p. (p.0, λ i. (tt, (p.1 i, tt))))

pub node_start : Settles node_contracts.node_start.ended node.node_start.Reads.Asked node.node_start.Reads.Learnt
node_start κs a = settled (λ x v p. (p.0, λ i. (tt, (tt, (p.1 i, tt)))))

pub node_release : Settles node_contracts.node_release.ended node.node_release.Reads.Asked node.node_release.Reads.Learnt
node_release κs a = settled (λ x v p. (p.0, λ i. (p.1 i, (tt, (tt, tt)))))

pub node_step : Settles node_contracts.node_step.ended node.node_step.Reads.Asked node.node_step.Reads.Learnt
node_step κs a = settled (λ x v p. (p.0, λ i. (p.1 i, (p.2 i, tt))))

pub node_energy : Settles node_contracts.node_energy.ended node.node_energy.Reads.Asked node.node_energy.Reads.Learnt
node_energy κs a = settled (λ x v p. (p, refl))

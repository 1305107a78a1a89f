-- The demand of a short window is small: a task's jobs in x ticks ask for less than x and one period, since no job asks
-- for more than its period.
use Prim.Native.Nat.{ℕ, zero, suc, ◌+◌, ◌-◌, ◌*◌, ◌≤◌, ◌<◌}
use mathlib.Core.Path.{◌≡◌}
use native.Mathlib.Omega.{arith}
use native.Mathlib.Nat.{mul-le-mul_left, mul-le-mul_right, mul_comm}
use Rattle.base.specs.Sum.{sum_to}
use Rattle.theory.specs.Round.{ceil}
use Rattle.theory.specs.Rules.{Rules}
use Rattle.theory.proofs.RoundLaws.{ceil_near}
use Rattle.theory.proofs.System.{Sound}
use Rattle.table.specs.Sound.{largest}
use Rattle.table.specs.Bytes.{record_at, records_in}
use Rattle.table.specs.Set.{rules_of}
use Rattle.table.proofs.SetLaws.{TableSet, read_set, works_small, work_is, period_is, set_sound, wait_within}
use Rattle.admission.specs.declared.ReadTable.{ReadTable}
use Rattle.admission.specs.Figure.{limit}

-- `Small` says that 1 ≤ C ≤ T ≤ 60,000 for every task.
abbrev pub Small : Rules → Type 0
Small R = (j : ℕ) → (1 ≤ R.C j) × (R.C j ≤ R.T j) × (R.T j ≤ largest)

module _ (R : Rules) (small : Small R) where
  -- One task's jobs in x ticks ask for at most x and the largest period.
  pub term_most : (j x : ℕ) → R.C j * ceil x (R.T j) ≤ x + largest
  term_most j x =
      let s = small j in
      let less : R.C j * ceil x (R.T j) ≤ R.T j * ceil x (R.T j) = mul-le-mul_right (ceil x (R.T j)) s.1 in
      let flip : R.T j * ceil x (R.T j) ≡ ceil x (R.T j) * R.T j = mul_comm (R.T j) (ceil x (R.T j)) in
      omega (arith, ceil_near x (R.T j) (omega arith))

  -- The jobs of i tasks in at most 120,000 ticks ask for at most 180,000 a task.
  pub terms_most : (i x : ℕ) → x ≤ 120000 → sum_to i (λ j. R.C j * ceil x (R.T j)) ≤ 180000 * i
  unfolding sum_to
  terms_most zero x l = omega arith
  terms_most (suc i) x l = omega (arith, terms_most i x l, term_most i x)

module _ (t : ReadTable) where
  -- The table is read as a set, whose rules are small and sound.
  pub table_set : TableSet t.bytes.now t.tasks
  table_set = read_set t.bytes.now t.tasks t.reads

  pub table_small : Small (rules_of t.bytes.now)
  table_small = works_small (record_at t.bytes.now) _ table_set.set

  pub table_sound : Sound (rules_of t.bytes.now)
  table_sound = set_sound (record_at t.bytes.now) _ table_set.set

  -- There are at most 16 tasks.
  pub few_tasks : t.tasks ≤ 16
  few_tasks = table_set.few

  -- Task j's work and period stand in record j + 1.
  pub work_at : (j : ℕ) → j < t.tasks → (rules_of t.bytes.now).C j ≡ (record_at t.bytes.now (j + 1)).work
  work_at j l = work_is (record_at t.bytes.now) (records_in t.bytes.now - 1) j (omega (arith, table_set.tasks))

  pub period_at : (j : ℕ) → j < t.tasks → (rules_of t.bytes.now).T j ≡ (record_at t.bytes.now (j + 1)).period
  period_at j l = period_is (record_at t.bytes.now) (records_in t.bytes.now - 1) j (omega (arith, table_set.tasks))

  -- A task's work is at most the largest period, and what its jobs ask for in at most 120,000 ticks at most 180,000.
  pub work_small : (j : ℕ) → j < t.tasks → (record_at t.bytes.now (j + 1)).work ≤ largest
  work_small j l = omega (arith, work_at j l, table_small j)

  pub jobs_small : (j x : ℕ) → j < t.tasks → x ≤ 120000 → (record_at t.bytes.now (j + 1)).work * ceil x (record_at t.bytes.now (j + 1)).period ≤ 180000
  jobs_small j x l s = rw (← work_at j l, ← period_at j l) (omega (arith, s, term_most (rules_of t.bytes.now) table_small j x))

  -- A job has its period, and does not wait longer than that.
  pub waits_at : (j : ℕ) → j < t.tasks → (rules_of t.bytes.now).wait j ≤ (rules_of t.bytes.now).D j
  waits_at j l = wait_within (record_at t.bytes.now) (records_in t.bytes.now - 1) table_set.set j (omega (arith, table_set.tasks))

  -- Limits and waits are at most the largest period.
  pub limit_small : (j : ℕ) → limit (rules_of t.bytes.now) j ≤ largest
  limit_small j = omega (arith, table_small j)

  pub wait_small : (j : ℕ) → j < t.tasks → (rules_of t.bytes.now).wait j ≤ largest
  wait_small j l = omega (arith, waits_at j l, table_small j)

  -- The sleep record has S below H, and H at most the largest period.
  pub sleep_at : ((record_at t.bytes.now 0).work < (record_at t.bytes.now 0).period) × ((record_at t.bytes.now 0).period ≤ largest)
  sleep_at = (table_set.set.room, (table_set.set.lawful_at 0 (omega arith)).small)

-- `Parts` says that the parts of the demand of a window of w ticks at task i are small.
pub record Parts (R : Rules) (i w : ℕ) : Type 0 where
  pub span : ceil w R.H * R.H ≤ 120000
  pub slots : ceil w R.H * R.S ≤ 120000
  pub above : sum_to i (λ j. R.C j * ceil (ceil w R.H * R.H) (R.T j)) ≤ 180000 * i

-- The parts of the demand are small where the window is no longer than the largest period.
pub parts_small : (t : ReadTable) (i w : ℕ) → i < t.tasks → w ≤ largest → Parts (rules_of t.bytes.now) i w
parts_small t i w li l =
    let R = rules_of t.bytes.now in
    let s = sleep_at t in
    let span = ceil_near w R.H (omega arith) in
    let slots : ceil w R.H * R.S ≤ ceil w R.H * R.H = mul-le-mul_left (ceil w R.H) (omega arith) in
    record { span = omega arith; slots = omega arith; above = terms_most R (table_small t) i _ (omega arith) }

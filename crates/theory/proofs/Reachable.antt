-- Every reachable view says this of a working task: its release is its last one, and some of its work is left.
use Prim.Native.Nat.{ℕ, zero, suc, ◌≤◌}
use mathlib.Core.Path.{◌≡◌, refl, sym, ◌∙◌}
use native.Mathlib.Omega.{arith}
use Rattle.base.proofs.Split.{by_eq}
use Rattle.theory.specs.Rules.{Rules}
use Rattle.theory.proofs.System.{View, left, worked, Move, Fresh, Reach, working, at, slotted, ran, tailed, released, ticked, start, move}

-- Every reachable view says this of a working task: its release is its last one, work is left and no more than C.
pub record Facts (R : Rules) (v : View) (j a l : ℕ) : Type 0 where
  pub last_is : v.last j ≡ at a
  pub some : 1 ≤ l
  pub full : l ≤ R.C j
  pub ok : R.Ok j a
  pub past : a ≤ v.clock

-- A view is fine when these facts hold of every working task in it.
unfoldable pub Fine : Rules → View → Type 0
Fine R v = (j a l : ℕ) → v.job j ≡ working a l → Facts R v j a l

-- A worked job that still works is the same job, and has work left.
pub worked_same : (a l a' l' : ℕ) → worked a l ≡ working a' l' → (a ≡ a') × (l ≡ l') × (1 ≤ l')
unfolding worked
worked_same a zero a' l' e = let z : ◌≡◌ {A = ℕ} 0 1 = cc in absurd (omega arith)
worked_same a (suc l) a' l' e = let q : suc l ≡ l' = cc in (cc, q, omega arith)

-- A job that was worked down to l has l left.
pub left_worked : (a l : ℕ) → left (worked a l) ≡ l
unfolding left worked
left_worked a zero = refl
left_worked a (suc l) = refl

-- A fresh view has no working task.
pub fine_start : (R : Rules) (v : View) → Fresh v → Fine R v
unfolding Fine
fine_start R v f j a l h = let z : ◌≡◌ {A = ℕ} 0 1 = cc (f.all_rest j) in absurd (omega arith)

-- A view that has the same entry at k keeps the facts at k.
facts_keep : (R : Rules) (v v' : View) (k : ℕ) → Fine R v → v'.job k ≡ v.job k → v'.last k ≡ v.last k → v.clock ≤ v'.clock
    → (a l : ℕ) → v'.job k ≡ working a l → Facts R v' k a l
unfolding Fine
facts_keep R v v' k F ej el ec a l h =
    let f = F k a l (sym ej ∙ h) in
    record { last_is = el ∙ f.last_is; some = f.some; full = f.full; ok = f.ok; past = omega (arith, f.past) }

-- Every move keeps the facts.
pub fine_move : (R : Rules) (v v' : View) → Fine R v → Move R v v' → Fine R v'
unfolding Fine
fine_move R v v' F (released j d r) k a l h =
    by_eq k j (Facts R v' k a l)
    (λ e.
    let ea : v.clock ≡ a = cc r.job_new in
    let ed : d ≡ l = cc r.job_new in
    record {
      last_is = cc r.last_new;
      some = omega (arith, r.some);
      full = rw e (omega (arith, r.full));
      ok = rw e (rw ea at r.ok);
      past = omega (arith, r.clock_same);
    })
    (λ n. facts_keep R v v' k F (r.jobs_same k n) (r.lasts_same k n) (omega (arith, r.clock_same)) a l h)
fine_move R v v' F (ticked (slotted r)) k a l h =
    facts_keep R v v' k F (r.jobs_same k) (r.lasts_same k) (omega (arith, r.clock_next)) a l h
fine_move R v v' F (ticked (tailed r)) k a l h =
    facts_keep R v v' k F (r.jobs_same k) (r.lasts_same k) (omega (arith, r.clock_next)) a l h
fine_move R v v' F (ticked (ran j b m r)) k a l h =
    by_eq k j (Facts R v' k a l)
    (λ e.
    let s = worked_same b m a l (cc r.job_new) in
    let f = F j b (suc m) r.was in
    let ea : b ≡ a = s.0 in
    record {
      last_is = cc (r.lasts_same j, f.last_is);
      some = s.2;
      full = rw e (omega (arith, f.full, s.1));
      ok = rw e (rw ea at f.ok);
      past = omega (arith, r.clock_next, f.past);
    })
    (λ n. facts_keep R v v' k F (r.jobs_same k n) (r.lasts_same k) (omega (arith, r.clock_next)) a l h)

-- Every reachable view has the facts.
pub reach_fine : (R : Rules) (v : View) → Reach R v → Fine R v
reach_fine R v (start f) = fine_start R v f
reach_fine R v (move {v = u} r m) = fine_move R u v (reach_fine R u r) m

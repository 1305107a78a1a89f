-- An admission is refused exactly with the lowest number that applies: as its table is, or with 5 on a sound one.
use Rattle.std.specs.Prelude.{Result, Ok, Err}
use Prim.Native.Nat.{ℕ, ◌+◌}
use mathlib.Core.Path.{◌≡◌, refl, ap, sym, ◌∙◌}
use mathlib.Core.Logic.{◌↔◌, inl, inr, ⊎_elim}
use mathlib.Core.List.{List}
use mathlib.Core.Bool.{true}
use native.Mathlib.Omega.{arith}
use Rattle.base.proofs.Split.{by_lt}
use Rattle.theory.specs.Rules.{Rules}
use Rattle.theory.specs.Rounds.{Overrun}
use Rattle.table.specs.declared.Refusal.{Refusal}
use Rattle.table.specs.declared.Refusal.TheVariants.{NoWindow}
use Rattle.table.specs.Refusals.{admission_gives}
use Rattle.table.specs.Sound.{read_of}
use Rattle.table.specs.Applies.{Lowest, TableApplies}
use Rattle.table.specs.Set.{rules_of}
use Rattle.table.proofs.SoundLaws.{read_sound, sound_read, reading_gives_lem}
use Rattle.table.proofs.LowestLaws.{number, lowest_of_first}
use Rattle.table.proofs.ReadingLaws.{reading_refused_exactly, sound_none_applies}
use Rattle.admission.specs.Figure.{limit}
use Rattle.admission.specs.Says.{Judged, admitted, refused}
use Rattle.admission.specs.Verdicts.{admit_of}
use Rattle.admission.specs.Applies.{Fails, AdmissionApplies}
use Rattle.admission.proofs.AdmitLaws.{admit_says, refused_exactly}

-- A search that fails has spent one number of rounds.
one_overrun : (R : Rules) (i limit a b : ℕ) → Overrun R i limit a → Overrun R i limit b → a ≡ b
one_overrun R i limit a b A B =
    by_lt a b (a ≡ b) (λ l. absurd (omega (arith, A.above, B.within a l)))
    (λ ge. by_lt b a (a ≡ b) (λ l. absurd (omega (arith, B.above, A.within b l))) (λ le. omega arith))

-- AN ADMISSION IS REFUSED exactly with the lowest number that applies.
pub admission_refused_exactly : (bytes : List ℕ) (r : Refusal) → ((admit_of bytes).answer ≡ Err r) ↔ Lowest (AdmissionApplies bytes) r
admission_refused_exactly bytes r = (to (read_of bytes) refl, λ L. from L L.applies)
  where
    R : Rules
    R = rules_of bytes

    -- Where the table is sound, what is refused is its first failing task.
    searched : (n : ℕ) → read_of bytes ≡ Ok n → Judged R n (admit_of bytes) → (admit_of bytes).answer ≡ Err r → Lowest (AdmissionApplies bytes) r
    searched n e (admitted b A) a =
        let w : Ok n ≡ Err r = sym b ∙ a in
        let z : ◌≡◌ {A = ℕ} 0 1 = cc in absurd (let y : ⊥ = omega arith in y)
    searched n e (refused f rounds l b P A) a =
        let w : Err (NoWindow (f + 1) rounds) ≡ Err r = sym b ∙ a in
        let same : NoWindow (f + 1) rounds ≡ r = cc in
        let F = (refused_exactly bytes n f e).0 (rounds, b) in
        record {
          applies = inr (record {
            tasks = n;
            place = f;
            rounds = rounds;
            is = sym same;
            sound = read_sound bytes n e;
            a_task = l;
            no_window = F.1;
            windows_before = F.2;
            spent = P;
          });
          none_lower = λ q lower applies. ⊎_elim (λ t. sound_none_applies bytes n e q t) (λ G. omega (arith, ap number same, ap number G.is)) applies;
        }

    to : (x : Result ℕ Refusal) → read_of bytes ≡ x → (admit_of bytes).answer ≡ Err r → Lowest (AdmissionApplies bytes) r
    to (Ok n) e a = searched n e (admit_says bytes n e) a
    to (Err q) e a =
        let w : Err q ≡ Err r = rw e at a in
        let same : q ≡ r = cc in
        let L : Lowest (TableApplies bytes) r = (reading_refused_exactly bytes r).0 (e ∙ ap Err same) in
        record {
          applies = inl L.applies;
          none_lower = λ p lower applies. ⊎_elim (λ t. L.none_lower p lower t) (λ G.
              let z : Ok G.tasks ≡ Err q = sym (sound_read bytes G.tasks G.sound) ∙ e in
              let y : ◌≡◌ {A = ℕ} 0 1 = cc in omega arith) applies;
        }

    failed : (F : Fails bytes r) → Judged R F.tasks (admit_of bytes) → (admit_of bytes).answer ≡ Err r
    failed F (admitted b A) =
        let e = sound_read bytes F.tasks F.sound in
        let m = (refused_exactly bytes F.tasks F.place e).1 (F.a_task, F.no_window, F.windows_before) in
        let w : Ok F.tasks ≡ Err (NoWindow (F.place + 1) m.0) = sym b ∙ m.1 in
        let z : ◌≡◌ {A = ℕ} 0 1 = cc in absurd (let y : ⊥ = omega arith in y)
    failed F (refused g k l b P A) =
        let e = sound_read bytes F.tasks F.sound in
        let m = (refused_exactly bytes F.tasks F.place e).1 (F.a_task, F.no_window, F.windows_before) in
        let w : Err (NoWindow (g + 1) k) ≡ Err (NoWindow (F.place + 1) m.0) = sym b ∙ m.1 in
        let up : g + 1 ≡ F.place + 1 = cc in
        let same : g ≡ F.place = omega arith in
        let spent : k ≡ F.rounds = one_overrun R F.place (limit R F.place) k F.rounds (rw same at P) F.spent in
        b ∙ rw (same, spent) (ap Err (sym F.is))

    from : Lowest (AdmissionApplies bytes) r → AdmissionApplies bytes r → (admit_of bytes).answer ≡ Err r
    from L (inl t) = rw ((reading_refused_exactly bytes r).1 (lowest_of_first L t))
    from L (inr F) = failed F (admit_says bytes F.tasks (sound_read bytes F.tasks F.sound))

-- An admission gives no refusals but those of `admission_gives`.
pub admission_gives_lem : (bytes : List ℕ) (r : Refusal) → (admit_of bytes).answer ≡ Err r → admission_gives r ≡ true
admission_gives_lem bytes r a = go ((admission_refused_exactly bytes r).0 a)
  where
    go : Lowest (AdmissionApplies bytes) r → admission_gives r ≡ true
    go L = ⊎_elim
        (λ t. rw (reading_gives_lem bytes r ((reading_refused_exactly bytes r).1 (lowest_of_first L t))))
        (λ F. rw F.is)
        L.applies

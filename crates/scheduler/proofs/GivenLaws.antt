-- What a start is given reads as sound exactly where the table is sound and the waking length is at most S: the table
-- is read first, and then one test is left. So a start goes one of three ways.
use Rattle.std.specs.Prelude.{Result, Ok, Err}
use Prim.Native.Nat.{ℕ, ◌≤◌, ◌<◌}
use mathlib.Core.Path.{◌≡◌, refl, sym, ◌∙◌}
use mathlib.Core.Bool.{Bool, true, false}
use borrow.Author.Tests.{leb-true, leb-false, le-leb}
use Rattle.table.specs.declared.Refusal.{Refusal}
use Rattle.table.specs.declared.Refusal.TheVariants.{LongWaking}
use Rattle.table.specs.Bytes.{record_at}
use Rattle.table.specs.Sound.{read_of}
use Rattle.table.proofs.SoundLaws.{refused_not_sound, read_sound, sound_read}
use Rattle.table.proofs.SetLaws.{TableSet, read_set}
use Rattle.decisions.specs.Fits.{waking_fits}
use Rattle.scheduler.specs.Starts.{Given, read_given, IsStarted}
use Rattle.scheduler.specs.Applies.{Startable}
use Rattle.scheduler.proofs.ReleaseLaws.{refused_not}

-- A START GOES ONE OF THREE WAYS: it is refused as its table is, or with 14, or it is accepted.
pub data StartIs (g : Given) : Type 0 where
  unsound : (r : Refusal) → read_of g.table ≡ Err r → read_given g ≡ Err r → StartIs g
  long : (n : ℕ) → read_of g.table ≡ Ok n → (record_at g.table 0).work < g.waking → read_given g ≡ Err LongWaking → StartIs g
  starts : (n : ℕ) → read_of g.table ≡ Ok n → g.waking ≤ (record_at g.table 0).work → read_given g ≡ Ok n → StartIs g

pub start_is : (g : Given) → StartIs g
unfolding read_given
start_is g = by_table (read_of g.table) refl
  where
    fits : Bool
    fits = waking_fits g.waking (record_at g.table 0)

    by_waking : (n : ℕ) → read_of g.table ≡ Ok n → (b : Bool) → fits ≡ b → StartIs g
    by_waking n q true t = starts n q (leb-true _ _ t) (rw (q, t))
    by_waking n q false t = long n q (leb-false _ _ t) (rw (q, t))

    by_table : (x : Result ℕ Refusal) → read_of g.table ≡ x → StartIs g
    by_table (Ok n) q = by_waking n q fits refl
    by_table (Err r) q = unsound r q (rw q)

-- Where all reads as sound the table does, and V is at most S.
pub given_says : (g : Given) (n : ℕ) → read_given g ≡ Ok n → (read_of g.table ≡ Ok n) × (g.waking ≤ (record_at g.table 0).work)
given_says g n e = go (start_is g)
  where
    go : StartIs g → (read_of g.table ≡ Ok n) × (g.waking ≤ (record_at g.table 0).work)
    go (unsound r q w) = absurd (refused_not_sound r n (sym w ∙ e))
    go (long m q l w) = absurd (refused_not_sound LongWaking n (sym w ∙ e))
    go (starts m q l w) = let same : m ≡ n = cc (sym w ∙ e) in (rw (← same) q, l)

-- WHAT A START IS GIVEN READS AS SOUND EXACTLY WHERE IT MAY BE STARTED: first, it may be where it reads as sound.
pub given_startable : (g : Given) (n : ℕ) → read_given g ≡ Ok n → Startable g n
given_startable g n e = let p = given_says g n e in record { sound = read_sound g.table n p.0; waking_fits = p.1 }

-- WHAT A START IS GIVEN READS AS SOUND EXACTLY WHERE IT MAY BE STARTED: the other way round.
pub startable_given : (g : Given) (n : ℕ) → Startable g n → read_given g ≡ Ok n
unfolding read_given
startable_given g n S = rw (sound_read g.table n S.sound, le-leb _ _ S.waking_fits)

-- An accepted start was given what reads as sound.
pub started_reads : (g : Given) → IsStarted g → (n : ℕ) × (read_given g ≡ Ok n)
started_reads g e = go (start_is g)
  where
    go : StartIs g → (n : ℕ) × (read_given g ≡ Ok n)
    go (unsound r q w) = absurd (refused_not r (rw w at e))
    go (long n q l w) = absurd (refused_not LongWaking (rw w at e))
    go (starts n q l w) = (n, w)

-- The table of what reads as sound is a sound set.
pub given_set : (g : Given) (n : ℕ) → read_given g ≡ Ok n → TableSet g.table n
given_set g n e = read_set g.table n (given_says g n e).0

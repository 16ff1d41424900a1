-- The laws of a read-write lock's World: what follows from one step that its table did.
use Rattle.world_rwlock.proofs.Prelude.{◌≡◌, ◌≢◌, ℕ, ◌+◌, ◌<◌, ◌≤◌, true, refl, sym, subst, Account, accounts_after, Answer, Call, Inputs, Move, Holding, is_outside, is_possible, going_on, moves_of, answers_of, StepsWell, left_by, beginning, first_of, last_of, Begin, World, standing_of, Stands, Moved as Steps, IsSound, IsAwake, is_at_rest, knows_of, Runs, HoldsWell, TellsRights, accounts_of, most_steps_of, steps_left_of, Promises}
use Rattle.world_base.proofs.of_any_world.Endings.{ends_outside as outside_at_end}
use Rattle.world_rwlock.proofs.step.Acting.{Way, way}
use Rattle.world_rwlock.proofs.bound.Alone.{laws}
use Rattle.world_rwlock.proofs.laws.Sound.{sound, awake}
use Rattle.world_rwlock.proofs.rights.Rights.{holds_well}
use Rattle.world_rwlock.proofs.whole.Whole as whole
use Rattle.world_rwlock.proofs.whole.Handing.{hands_on}
use Rattle.world_rwlock.proofs.whole.FirstPolls.{upgradable_ready, write_ready}
use Rattle.world_rwlock.proofs.whole.Promises.{unstarved_at_end, patient_at_end}
use Rattle.world_rwlock.proofs.whole.Newcomers.{newcomer, first_patient}
use Rattle.world_rwlock.proofs.whole.Takers.{only_told}
use Rattle.world_rwlock.proofs.whole.Ring.{tells_nobody_at_end}
use Rattle.world_rwlock.proofs.bound.AloneSeen.{turn_seen_polled, told_seen_polled, reading_seen_polled, full_seen_polled, writing_seen_polled}
use Rattle.world_rwlock.proofs.whole.Counted.{held}

pub sound_now : (w : World) → Stands w → IsSound w
sound_now w s = subst IsSound (sym s.seen) (sound w.behind s.laws s.fits)

pub awake_now : (w : World) → Stands w → is_at_rest w ≡ true → IsAwake w
awake_now w s = let A : World → Type 0 = λ x. is_at_rest x ≡ true → IsAwake x in
    subst A (sym s.seen) (awake w.behind s.laws s.fits)

pub told_at_first : (w : World) → TellsRights (accounts_of w) w
told_at_first w p = refl

pub goes_well : (known : ℕ → Account) (w : World) (m : Move) (a : Answer) (v : World) → TellsRights known w → Steps w m a v → StepsWell TellsRights HoldsWell (accounts_after known m a) v
goes_well known w m a v tells s =
    let both = holds_well known w m a v tells (sound_now w s.did.stood) s.legal (sound_now v s.did.stands) (awake_now v s.did.stands) in
    record { tells = both.0; well = both.1 }

way_of : (w : World) (m : Move) (a : Answer) (v : World) → Steps w m a v → Way w.behind v.behind m a
way_of w m a v s = way w.behind v.behind m a (laws w s.did.stood) (laws v s.did.stands) s.did.step

pub begins : (w : World) (p : ℕ) (c : Call) (i : Inputs) (a : Answer) (v : World) → Steps w (beginning p c i) a v → 1 + left_by a (steps_left_of v p) ≤ most_steps_of c
begins w p c i a v s = whole.first w.behind v.behind p c i a (way_of w (beginning p c i) a v s)

pub falls : (w : World) (p : ℕ) (i : Inputs) (a : Answer) (v : World) → Steps w (going_on p i) a v → left_by a (steps_left_of v p) < steps_left_of w p
falls w p i a v s = whole.onward w.behind v.behind p i a s.did.stood.laws (way_of w (going_on p i) a v s)

pub ends_outside : (w : World) (m : Move) (a : Answer) (v : World) → Steps w m a v → a ≢ Answer.Stepped → is_possible a ≡ true → is_outside (standing_of v m.party) ≡ true
ends_outside w m a v s = outside_at_end standing_of knows_of Holding w m a v s.legal.possible s.legal.ends_properly

pub keeps_promise : (known : ℕ → Account) (w : World) (p : ℕ) (c : Call) (i : Inputs) (n : ℕ) (a : Answer) (v : World) → Runs known w (moves_of p c i n) (answers_of n a) v → a ≢ Answer.Stepped → Promises w p c i a v
keeps_promise known w p c i n a v runs ended =
    let stood : Stands w = (first_of Steps accounts_after HoldsWell known w (beginning p c i) _ (answers_of n a) v runs).2.did.stood in
    let stands : Stands v = (last_of Steps accounts_after HoldsWell known w p i n (Begin c i) a v runs).legal.did.stands in
    let R : Call → Type 0 = λ x. Runs known w (moves_of p x i n) (answers_of n a) v in
    record {
      turn = λ is. turn_seen_polled known w p i n a v stood (subst R is runs) ended;
      told = λ is. told_seen_polled known w p i n a v stood (subst R is runs) ended;
      reading = λ is. reading_seen_polled known w p i n a v stood (subst R is runs) ended;
      full = λ is. full_seen_polled known w p i n a v stood (subst R is runs) ended;
      writing = λ is. writing_seen_polled known w p i n a v stood (subst R is runs) ended;
      unstarved = λ patient none. unstarved_at_end known w p c i n a v stood patient none runs ended;
      patient = λ patient none. patient_at_end known w p c i n a v stood patient none runs ended;
      tells_nobody = λ patient none. tells_nobody_at_end known w p c i n a v stood runs ended patient none;
      first_upgradable = upgradable_ready known w p c i n a v stood runs ended;
      first_write = write_ready known w p c i n a v stood runs ended;
      first_patient = λ first. first_patient known w p c i n a v stood stands runs ended first;
      newcomer = λ first. newcomer known w p c i n a v stood stands runs ended first;
      only_told = only_told known w p c i n a v stood stands runs ended;
      held = λ is. held known w p i n a v stood stands (subst R is runs) ended;
      hands_on = hands_on known w p c i n a v stood runs ended;
    }

-- The laws of a mutex's World: what follows from one step that its table did.
use Rattle.world_mutex.proofs.Prelude.{◌≡◌, ◌≢◌, ℕ, ◌+◌, ◌<◌, ◌≤◌, true, refl, sym, ap, ◌∙◌, subst, Answer, Call, Inputs, Move, Begin, Account, account_after, accounts_after, is_outside, is_possible, going_on, moves_of, answers_of, StepsWell, left_by, beginning, first_of, last_of, Promises, knows, IsSound, IsAwake, is_at_rest, Runs, HoldsWell, TellsRights, accounts_of, World, standing_of, Stands, Steps}
use Rattle.world_base.specs.declared.standing.Rest.TheVariants.{Holding}
use Rattle.world_base.proofs.of_any_world.Endings.{ends_outside as outside_at_end}
use Rattle.world_mutex.specs.Whole.{most_steps_of, steps_left_of}
use Rattle.world_mutex.proofs.whole.Promises.{keeps_promises}
use Rattle.world_mutex.proofs.rights.Rights.{own, holds_well}
use Rattle.world_mutex.proofs.laws.Sound.{sound, awake}
use Rattle.world_mutex.proofs.whole.Whole as whole

sound_now : (w : World) → Stands w → IsSound w
sound_now w s = subst IsSound (sym s.seen) (sound w.behind s.laws s.fits)

awake_now : (w : World) → Stands w → is_at_rest w ≡ true → IsAwake w
awake_now w s = let A : World → Type 0 = λ x. is_at_rest x ≡ true → IsAwake x in subst A (sym s.seen) (awake w.behind s.laws s.fits)

pub told_at_first : (w : World) → TellsRights (accounts_of w) w
told_at_first w p = refl

own_now : (w : World) (m : Move) (a : Answer) (v : World) → Steps w m a v → account_after (accounts_of w m.party) m.what a ≡ accounts_of v m.party
own_now w m a v s =
    ap (λ x. account_after (accounts_of x m.party) m.what a) s.did.stood.seen
    ∙ (own w.behind v.behind m a s.did.stood.laws s.did.stood.fits s.did.stands.laws s.did.stands.fits s.did.step ∙ ap (λ x. accounts_of x m.party) (sym s.did.stands.seen))

pub goes_well : (known : ℕ → Account) (w : World) (m : Move) (a : Answer) (v : World) → TellsRights known w → Steps w m a v → StepsWell TellsRights HoldsWell (accounts_after known m a) v
goes_well known w m a v tells s = holds_well known w m a v tells (own_now w m a v s) s.legal (sound_now v s.did.stands) (awake_now v s.did.stands)

pub begins : (w : World) (p : ℕ) (c : Call) (i : Inputs) (a : Answer) (v : World) → Steps w (beginning p c i) a v → 1 + left_by a (steps_left_of v p) ≤ most_steps_of c
begins w p c i a v s = whole.begins w.behind v.behind p c i a s.did.stood.laws s.did.stood.fits s.did.stands.laws s.did.stands.fits s.did.step

pub falls : (w : World) (p : ℕ) (i : Inputs) (a : Answer) (v : World) → Steps w (going_on p i) a v → left_by a (steps_left_of v p) < steps_left_of w p
falls w p i a v s = whole.falls w.behind v.behind p i a s.did.stood.laws s.did.stood.fits s.did.stands.laws s.did.stands.fits s.did.step

pub ends_outside : (w : World) (m : Move) (a : Answer) (v : World) → Steps w m a v → a ≢ Answer.Stepped → is_possible a ≡ true → is_outside (standing_of v m.party) ≡ true
ends_outside w m a v s = outside_at_end standing_of (λ x p. knows) Holding w m a v s.legal.possible s.legal.ends_properly

pub keeps_promise : (known : ℕ → Account) (w : World) (p : ℕ) (c : Call) (i : Inputs) (n : ℕ) (a : Answer) (v : World) → Runs known w (moves_of p c i n) (answers_of n a) v → a ≢ Answer.Stepped → Promises w p c i a v
keeps_promise known w p c i n a v runs ended =
    keeps_promises known w p c i n a v (first_of Steps accounts_after HoldsWell known w (beginning p c i) _ (answers_of n a) v runs).2.did.stood (last_of Steps accounts_after HoldsWell known w p i n (Begin c i) a v runs).legal.did.stands runs ended

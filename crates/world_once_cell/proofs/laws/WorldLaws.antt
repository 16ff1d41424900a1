-- The laws of a once-cell's World: what follows from one step that its table did.
use Rattle.world_once_cell.proofs.Prelude.{◌≡◌, ◌≢◌, ℕ, ◌+◌, ◌<◌, ◌≤◌, true, Some, refl, ap, sym, subst, Answer, Call, Inputs, Move, Rest, is_outside, is_possible, some_eq, none_some, Content, Empty, BeingMade, Full, knows, World, standing_of, HasOneTeller, value_in, view_of, Legal, Steps, going_on, StepsWell, left_by, beginning, Known, Tells, HoldsWell, known_of, learn}
use Rattle.world_base.proofs.of_any_world.Endings.{ends_outside as outside_at_end}
use Rattle.world_once_cell.specs.Whole.{most_steps_of, steps_left_of}
use Rattle.world_once_cell.proofs.laws.Sound.{sound, awake}
use Rattle.world_once_cell.proofs.rights.Rights.{quiet, holds_well}
use Rattle.world_once_cell.proofs.whole.Whole as whole

value_full : (c : Content) (v : ℕ) → value_in c ≡ Some v → c ≡ Full v
value_full Empty v e = absurd (none_some e)
value_full (BeingMade q) v e = absurd (none_some e)
value_full (Full u) v e = ap Full (some_eq e)

pub told_at_first : (w : World) → Tells (known_of w) w
told_at_first w = record { rights = λ p. refl; value = λ v e. value_full w.cell v e }

pub goes_well : (k : Known) (w : World) (m : Move) (a : Answer) (v : World) → Tells k w → Steps w m a v → StepsWell Tells HoldsWell (learn k m a) v
goes_well k w m a v tells s =
    let P : World → Type 0 = StepsWell Tells HoldsWell (learn k m a) in
    let Q : World → Type 0 = Tells k in
    let L : World → World → Type 0 = λ x y. Legal x m a y in
    let one : HasOneTeller (view_of v.behind) = subst HasOneTeller s.did.stands.seen s.did.stands.one_teller in
    let R : World → Type 0 = λ x. L x v in
    subst P (sym s.did.stands.seen) (holds_well k w.behind v.behind m a s.did.stood.cell s.did.stood.fits (subst (L (view_of w.behind)) s.did.stands.seen (subst R s.did.stood.seen s.legal)) (quiet w.behind v.behind m a s.did.stood.cell s.did.stood.fits s.did.stands.cell s.did.stands.fits s.did.step) (subst Q s.did.stood.seen tells)
    (sound v.behind s.did.stands.cell s.did.stands.fits one) (awake v.behind s.did.stands.cell s.did.stands.fits one))

pub begins_few : (w : World) (p : ℕ) (c : Call) (i : Inputs) (a : Answer) (v : World) → Steps w (beginning p c i) a v → 1 + left_by a (steps_left_of v p) ≤ most_steps_of c
begins_few w p c i a v s = whole.begins_few w.behind v.behind s.did.stood.cell s.did.stood.fits s.did.stands.cell s.did.stands.fits p i a c s.did.step

pub falls : (w : World) (p : ℕ) (i : Inputs) (a : Answer) (v : World) → Steps w (going_on p i) a v → left_by a (steps_left_of v p) < steps_left_of w p
falls w p i a v s = whole.falls w.behind v.behind s.did.stood.cell s.did.stood.fits s.did.stands.cell s.did.stands.fits p i a s.did.step

pub ends_outside : (w : World) (m : Move) (a : Answer) (v : World) → Steps w m a v → a ≢ Answer.Stepped → is_possible a ≡ true → is_outside (standing_of v m.party) ≡ true
ends_outside w m a v s = outside_at_end standing_of (λ x p. knows) Rest.Finished w m a v s.legal.possible s.legal.ends_properly

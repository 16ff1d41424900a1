-- Who has still to tell of what it gave up: only parties inside a call.
use Rattle.world_rwlock.proofs.Prelude.{◌≡◌, ℕ, true, false, get_or, refl, arith, ap, sym, ◌∙◌, Rest, Stage, Outside, Inside, Forgotten, Within, is_outside, stage_at, stands_as, Table, mapped_at, past_last, by_stage_or_past, Place, turn_at, place_at, Guarded, goes_with, ListName, for_the_turn, for_no_readers, for_no_writer, standing_of, nothing_owed, owes_in, has_to_tell, owing_at, verdict, view_of}
use Rattle.world_rwlock.proofs.step.Idle.{Laws, stood}

-- ---- who owes

pub owing_seen : (t : Table Guarded) (q : ℕ) → get_or (view_of t).owing q nothing_owed ≡ owing_at (place_at t.machine.lock.places q)
owing_seen t q = mapped_at owing_at t.machine.lock.places q Place.Out

pub owes_seen : (t : Table Guarded) (list : ListName) (q : ℕ) → has_to_tell list (view_of t) q ≡ owes_in list (owing_at (place_at t.machine.lock.places q))
owes_seen t list q = ap (owes_in list) (owing_seen t q)

abbrev pub Owes : ListName → Place → Type 0
Owes list x = owes_in list (owing_at x) ≡ true

-- only inside a call
owes_nothing : (list : ListName) → owes_in list nothing_owed ≡ false
owes_nothing for_the_turn = refl
owes_nothing for_no_readers = refl
owes_nothing for_no_writer = refl

inner : (x : Place) → goes_with (Outside Rest.Idle) x ≡ false → goes_with (Outside Rest.Pending) x ≡ false → goes_with (Outside Rest.Holding) x ≡ false → goes_with Forgotten x ≡ false → (s : Stage) → goes_with s x ≡ true → (u : Within) × (s ≡ Inside u)
inner x a b c d (Inside u) g = (u, refl)
inner x a b c d (Outside Rest.Idle) g = absurd (cc (a, g))
inner x a b c d (Outside Rest.Pending) g = absurd (cc (b, g))
inner x a b c d (Outside Rest.Holding) g = absurd (cc (c, g))
inner x a b c d (Outside Rest.Finished) g = absurd (cc g)
inner x a b c d Forgotten g = absurd (cc (d, g))

pub not_owed : {A : Type 0} (list : ListName) → owes_in list nothing_owed ≡ true → A
not_owed list h = let no = owes_nothing list in absurd (cc (no, h))

pub owes_inside : (list : ListName) (s : Stage) (x : Place) → Owes list x → goes_with s x ≡ true → (u : Within) × (s ≡ Inside u)
owes_inside list s (Place.ReleaseTurn e) o = inner (Place.ReleaseTurn e) refl refl refl refl s
owes_inside list s (Place.ReleasingTurn e) o = inner (Place.ReleasingTurn e) refl refl refl refl s
owes_inside list s Place.DropReadNotify o = inner Place.DropReadNotify refl refl refl refl s
owes_inside list s Place.DropUpgradableNotify o = inner Place.DropUpgradableNotify refl refl refl refl s
owes_inside list s (Place.UnmarkNotify r) o = inner (Place.UnmarkNotify r) refl refl refl refl s
owes_inside list s Place.DownNotify o = inner Place.DownNotify refl refl refl refl s
owes_inside list s Place.DowngradeNotify o = inner Place.DowngradeNotify refl refl refl refl s
owes_inside list s _ o = not_owed list o

-- a party outside every call has nothing to tell
pub owes_outside : (t : Table Guarded) (list : ListName) (q : ℕ) → Laws t → has_to_tell list (view_of t) q ≡ true → is_outside (standing_of (view_of t) q) ≡ false
owes_outside t list q k h =
    let there : Owes list (place_at t.machine.lock.places q) = sym (owes_seen t list q) ∙ h in
    by_stage_or_past t.stages q (is_outside (standing_of (view_of t) q) ≡ false)
    (λ past. (let out : place_at t.machine.lock.places q ≡ Place.Out = past_last t.machine.lock.places q Place.Out (omega (arith, past, k.fits.as_many)) in not_owed list (sym (ap (λ z. owes_in list (owing_at z)) out) ∙ there)))
    (λ inside. (let within = owes_inside list (stage_at t.stages q) (place_at t.machine.lock.places q) there (k.fits.stands q inside) in
    ap is_outside (stood t q k ∙ ap (λ s. stands_as (verdict t.machine.value (place_at t.machine.lock.places q) (turn_at t.machine.lock.turn.courses q)) s) within.1)))

-- A move leaves the rights of other parties as they are.
use Rattle.world_rwlock.proofs.Prelude.{◌≡◌, ◌≢◌, ℕ, ◌⊎◌, if◌then◌else◌, inl, inr, Bool, true, false, List, Some, None, refl, ap, sym, ◌∙◌, subst, get_or, Answer, Move, sought_after, read, is_on, Effect, changes, nobody, passes, is_upgradable, waits_to_write, World, standing_of, sought_by, HasTurn, turn_after, readers_after, IsAllowed, ListName, Legal, other_test, account_by, right_by, right_in, accounts_of}
use Rattle.std.proofs.lemmas.List.{get_or-set_other}
use Rattle.world_rwlock.specs.State.{Turn, writes, reads}
use Rattle.world_rwlock.specs.Changes

-- the turn is nobody's, or this party's
abbrev IsAt : ℕ → Turn → Type 0
IsAt p t = (t ≡ nobody) ⊎ HasTurn t p

at_turn : (t u : Turn) (p : ℕ) → t ≡ u → HasTurn u p → IsAt p t
at_turn t u p e h = let P : Turn → Type 0 = λ x. HasTurn x p in inr (subst P (sym e) h)

-- another party has no right by such a turn
not_by : (p q : ℕ) (t : Turn) (b : Bool) → q ≢ p → IsAt p t → right_by t b q ≡ (if b then Some read else None)
not_by p q nobody b apart at = refl
not_by p q (passes r) b apart at = refl
not_by p q (waits_to_write r) b apart at = refl
not_by p q (is_upgradable r) b apart (inl e) = absurd (cc)
not_by p q (is_upgradable r) b apart (inr e) = rw (other_test r q (λ h. apart (sym h ∙ e))) refl
not_by p q (writes r) b apart (inl e) = absurd (cc)
not_by p q (writes r) b apart (inr e) = rw (other_test r q (λ h. apart (sym h ∙ e))) refl

module _ (w : World) (p q : ℕ) (apart : q ≢ p) where
  either : (t u : Turn) (b : Bool) → IsAt p t → IsAt p u → right_by u b q ≡ right_by t b q
  either t u b was is = not_by p q u b apart is ∙ sym (not_by p q t b apart was)

  turn_kept : (d : Effect Changes.Change ListName) (b : Bool) → IsAllowed p d w → right_by (turn_after p d w.state.turn) b q ≡ right_by w.state.turn b q
  turn_kept (changes Changes.takes_turn) b may = either w.state.turn (passes p) b (inl may.0) (inr refl)
  turn_kept (changes Changes.leaves_turn) b (inl e) = either w.state.turn nobody b (at_turn w.state.turn (passes p) p e refl) (inl refl)
  turn_kept (changes Changes.leaves_turn) b (inr e) = either w.state.turn nobody b (at_turn w.state.turn (is_upgradable p) p e refl) (inl refl)
  turn_kept (changes Changes.becomes_upgradable) b may = either w.state.turn (is_upgradable p) b (at_turn w.state.turn (passes p) p may.0 refl) (inr refl)
  turn_kept (changes Changes.stops_upgradable) b may = either w.state.turn (passes p) b (at_turn w.state.turn (is_upgradable p) p may refl) (inr refl)
  turn_kept (changes Changes.begins_to_wait) b may = either w.state.turn (waits_to_write p) b (at_turn w.state.turn (passes p) p may.0 refl) (inr refl)
  turn_kept (changes Changes.begins_to_write) b may = elim may.0 [
    | inl e ↦ either w.state.turn (writes p) b (at_turn w.state.turn (passes p) p e refl) (inr refl)
    | inr e ↦ either w.state.turn (writes p) b (at_turn w.state.turn (waits_to_write p) p e refl) (inr refl)
  ]
  turn_kept (changes Changes.upgrades) b may = either w.state.turn (waits_to_write p) b (at_turn w.state.turn (is_upgradable p) p may refl) (inr refl)
  turn_kept (changes Changes.upgrades_at_once) b may = either w.state.turn (writes p) b (at_turn w.state.turn (is_upgradable p) p may.0 refl) (inr refl)
  turn_kept (changes Changes.unmarks) b (inl e) = either w.state.turn (passes p) b (at_turn w.state.turn (waits_to_write p) p e refl) (inr refl)
  turn_kept (changes Changes.unmarks) b (inr e) = either w.state.turn (passes p) b (at_turn w.state.turn (writes p) p e refl) (inr refl)
  turn_kept (changes Changes.downgrades) b may = either w.state.turn (passes p) b (at_turn w.state.turn (writes p) p may refl) (inr refl)
  turn_kept (changes Changes.downgrades_to_upgradable) b may = either w.state.turn (is_upgradable p) b (at_turn w.state.turn (writes p) p may refl) (inr refl)
  turn_kept _ b may = refl

  reads_kept : (d : Effect Changes.Change ListName) (rs : List Bool) → is_on (readers_after p d rs) q ≡ is_on rs q
  reads_kept (changes Changes.begins_to_read) rs = get_or-set_other rs p q true false apart
  reads_kept (changes Changes.becomes_upgradable) rs = get_or-set_other rs p q true false apart
  reads_kept (changes Changes.downgrades) rs = get_or-set_other rs p q true false apart
  reads_kept (changes Changes.downgrades_to_upgradable) rs = get_or-set_other rs p q true false apart
  reads_kept (changes Changes.stops_reading) rs = get_or-set_other rs p q false false apart
  reads_kept (changes Changes.stops_upgradable) rs = get_or-set_other rs p q false false apart
  reads_kept (changes Changes.upgrades) rs = get_or-set_other rs p q false false apart
  reads_kept (changes Changes.upgrades_at_once) rs = get_or-set_other rs p q false false apart
  reads_kept _ rs = refl

-- what is known of another party stays
pub others : (w : World) (m : Move) (a : Answer) (v : World) → Legal w m a v → (q : ℕ) → q ≢ m.party → accounts_of v q ≡ accounts_of w q
others w m a v legal q apart =
    let d = legal.one_change.effect in
    let turn : v.state.turn ≡ turn_after m.party d w.state.turn = ap (λ s. s.turn) legal.one_change.state in
    let reading : reads v q ≡ reads w q = ap (λ s. is_on s.readers q) legal.one_change.state ∙ reads_kept w m.party q apart d w.state.readers in
    let right : right_in v q ≡ right_in w q = ap (λ t. right_by t (reads v q) q) turn ∙ (ap (λ b. right_by (turn_after m.party d w.state.turn) b q) reading ∙ turn_kept w m.party q apart d (reads w q) legal.one_change.allowed) in
    let seeks : sought_by v q ≡ sought_by w q = ap (λ l. get_or l q None) legal.one_change.sought ∙ get_or-set_other w.sought m.party q (sought_after (sought_by w m.party) m.what a) None apart in
    ap (λ s. account_by s (sought_by v q) (right_in v q)) (legal.one_change.others q apart)
    ∙ (ap (λ o. account_by (standing_of w q) o (right_in v q)) seeks
    ∙ ap (account_by (standing_of w q) (sought_by w q)) right)

-- After each step what is known by the answers goes on to be so.
use Rattle.world_barrier.proofs.Prelude.{◌≡◌, ℕ, ◌==◌, if◌then◌else◌, Bool, true, false, Some, refl, ap, sym, ◌∙◌, Answer, Call, Inputs, Move, What, Begin, Go, Rest, Account, account_after, accounts_after, none_some, StepsWell, stage_at, Table, way, by_way, Place, Position, place_for, Barrier, Moves, position_at, World, IsSound, IsAwake, is_at_rest, TellsNoRights, HoldsWell, no_account, TableSteps}
use Rattle.world_base.proofs.of_table.Rights.{idle_account, again_account}
use Rattle.world_barrier.proofs.whole.Alone.{known_calls}

-- ---- no answer of a barrier gives a right

abbrev Quiet : What → Answer → Type 0
Quiet what a = account_after no_account what a ≡ no_account

quiet_go : (i : Inputs) (a : Answer) → Quiet (Go i) a
quiet_go i Answer.None = refl
quiet_go i _ = refl

quiet_wait : (i : Inputs) (a : Answer) → Quiet (Begin Call.Wait i) a
quiet_wait i Answer.None = refl
quiet_wait i _ = refl

quiet_poll : (i : Inputs) (a : Answer) → Quiet (Begin Call.Poll i) a
quiet_poll i Answer.None = refl
quiet_poll i _ = refl

quiet_drop : (i : Inputs) (a : Answer) → Quiet (Begin Call.Drop i) a
quiet_drop i Answer.None = refl
quiet_drop i _ = refl

quietly : (what : What) (x : Position) (from : Place) → place_for what x ≡ Some from → (a : Answer) → Quiet what a
quietly (Go i) x from e a = quiet_go i a
quietly (Begin Call.Wait i) x from e a = quiet_wait i a
quietly (Begin Call.Poll i) x from e a = quiet_poll i a
quietly (Begin Call.Drop i) x from e a = quiet_drop i a
quietly (Begin _ i) x from e a = absurd (none_some e)

pub quiet : (t u : Table Barrier) (m : Move) (a : Answer) → TableSteps t m a u → Quiet m.what a
quiet t u m a step = by_way known_calls Rest.Finished Moves t u m a (λ b x. Quiet m.what b) (λ e. idle_account no_account m.what) (λ w e f. again_account no_account (stage_at t.stages m.party) m.what f)
    (λ w e f k. quietly m.what (position_at t.machine.positions m.party) k.acts.from k.acts.starts a) (way known_calls Rest.Finished Moves t u m a step)

-- ---- what is known, and that all is well

chosen : (b : Bool) (x : Account) → x ≡ no_account → (if b then x else no_account) ≡ no_account
chosen true x e = e
chosen false x e = refl

pub holds_well : (known : ℕ → Account) (w : World) (m : Move) (a : Answer) → Quiet m.what a → TellsNoRights known w → (v : World) → IsSound v → (is_at_rest v ≡ true → IsAwake v) → StepsWell TellsNoRights HoldsWell (accounts_after known m a) v
holds_well known w m a quietly tells v sound awake =
    let rights : (q : ℕ) → accounts_after known m a q ≡ no_account = λ q. rw (tells q) (chosen (m.party == q) (account_after no_account m.what a) quietly) in
    record {
      tells = rights;
      well = record {
        no_rights = λ q r h. (let none : false ≡ true = sym (ap (λ (z : Account). z.has) (rights q)) ∙ h.0 in cc none);
        sound = sound;
        awake = awake;
      };
    }

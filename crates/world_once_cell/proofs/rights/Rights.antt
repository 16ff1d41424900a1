-- After each step what is known by the answers goes on to be so.
use Rattle.world_once_cell.proofs.Prelude.{◌≡◌, ℕ, ◌==◌, if◌then◌else◌, Bool, true, false, Option, Some, None, refl, ap, sym, ◌∙◌, subst, Answer, Call, Got, Inputs, Move, What, Begin, Go, Stage, Within, Standing, outside, inside, forgotten, is_decided, decision, some_eq, stage_at, call_at, polls_again, Table, Place, Position, Content, Full, OnceCell, IsCell, knows, goes_with, position_at, World, standing_of, view_of, call_of, HasItsOwn, Legal, IsSound, IsAwake, is_at_rest, IsCellTable, TableSteps, StepsWell, Known, Tells, HoldsWell, no_account, learn, value_after}
use Rattle.world_base.proofs.of_table.Rights.{idle_account, again_account}
use Rattle.world_once_cell.proofs.of_machine.stages.Turns.{Turn, turn, fits}
use Rattle.world_base.specs.Accounts.{Account, account_after, accounts_after}
use Rattle.world_once_cell.proofs.step.Owns.{each_has}
use Rattle.world_once_cell.proofs.Values.{stays_full}
use Rattle.world_once_cell.proofs.step.Stepping.{by_step}

-- ---- no answer of a cell gives a right

abbrev Quiet : What → Answer → Type 0
Quiet what a = account_after no_account what a ≡ no_account

quiet_go : (i : Inputs) (a : Answer) → Quiet (Go i) a
quiet_go i Answer.None = refl
quiet_go i _ = refl

quiet_initialize : (i : Inputs) (a : Answer) → Quiet (Begin Call.Initialize i) a
quiet_initialize i Answer.None = refl
quiet_initialize i _ = refl

quiet_set : (v : ℕ) (i : Inputs) (a : Answer) → Quiet (Begin (Call.Set v) i) a
quiet_set v i Answer.None = refl
quiet_set v i _ = refl

quiet_wait : (i : Inputs) (a : Answer) → Quiet (Begin Call.Wait i) a
quiet_wait i Answer.None = refl
quiet_wait i _ = refl

quiet_try : (v : ℕ) (i : Inputs) (a : Answer) → Quiet (Begin (Call.TrySet v) i) a
quiet_try v i Answer.None = refl
quiet_try v i _ = refl

quiet_poll : (i : Inputs) (a : Answer) → Quiet (Begin Call.Poll i) a
quiet_poll i Answer.None = refl
quiet_poll i _ = refl

quiet_drop : (i : Inputs) (a : Answer) → Quiet (Begin Call.Drop i) a
quiet_drop i Answer.None = refl
quiet_drop i _ = refl

abbrev Quietly : Stage → What → Within → Position → Place → Type 0
Quietly s what w x from = (a : Answer) → Quiet what a

quietly : (s : Stage) (what : What) (w : Within) (x : Position) → goes_with s x ≡ true → call_at knows s what ≡ Some w → polls_again s what ≡ false → Turn Quietly s what w x
quietly = turn Quietly (record {
  initialize = λ r i g h. quiet_initialize i;
  set = λ v r i g h. quiet_set v i;
  wait = λ r i g h. quiet_wait i;
  try = λ v r i g h. quiet_try v i;
  poll = λ k i. quiet_poll i;
  poll_listed = λ k i. quiet_poll i;
  poll_maker = λ k i. quiet_poll i;
  poll_wait = λ i. quiet_poll i;
  poll_waiting = λ i. quiet_poll i;
  cancel = λ k i. quiet_drop i;
  cancel_maker = λ k i. quiet_drop i;
  cancel_wait = λ i. quiet_drop i;
  abandon = λ k i. quiet_drop i;
  abandon_wait = λ i. quiet_drop i;
  drop_finished = λ i. quiet_drop i;
  go = λ w x i begun here. quiet_go i;
})

pub quiet : (t u : Table OnceCell) (m : Move) (a : Answer) → IsCell t.machine → IsCellTable t → IsCell u.machine → IsCellTable u → TableSteps t m a u → Quiet m.what a
quiet t u m a tl tf ul uf step = by_step t u m a tl tf ul uf (λ b x. Quiet m.what b) (λ e. idle_account no_account m.what) (λ w e f. again_account no_account (stage_at t.stages m.party) m.what f)
    (λ w k. (quietly (stage_at t.stages m.party) m.what w (position_at t.machine.positions m.party) (k.old_fits.stands m.party k.inside).goes k.call k.first).holds a) step

-- ---- the value that an answer tells is in the cell

by_standing : (w : World) (m : Move) (u : World) (v : ℕ) (within : Within) (s : Standing) → Legal w m (Answer.Ready (Got.Value v)) u → standing_of w m.party ≡ s → HasItsOwn w m.party s
    → call_of w m ≡ Some within → u.cell ≡ Full v
by_standing w m u v within s l e own called = (
    let a : Answer = Answer.Ready (Got.Value v) in
    let decided : decision a (standing_of u m.party) ≡ Some a = ap (decision a) (l.ends_properly.stands within called).1 in
    by_decided s decided e own
    ) where
      fresh : decision (Answer.Ready (Got.Value v)) (standing_of u m.party) ≡ Some (Answer.Ready (Got.Value v)) → is_decided (standing_of w m.party) ≡ false → u.cell ≡ Full v
      fresh decided h = (l.carries.ready (Got.Value v) (h, decided)).0

      by_decided : (s : Standing) → decision (Answer.Ready (Got.Value v)) (standing_of u m.party) ≡ Some (Answer.Ready (Got.Value v)) → standing_of w m.party ≡ s → HasItsOwn w m.party s → u.cell ≡ Full v
      by_decided (outside r) decided e own = fresh decided (ap is_decided e)
      by_decided (inside z None) decided e own = fresh decided (ap is_decided e)
      by_decided forgotten decided e own = fresh decided (ap is_decided e)
      by_decided (inside z (Some b)) decided e own =
          let same : b ≡ Answer.Ready (Got.Value v) = some_eq (sym (l.ends_properly.as_decided z b e refl) ∙ decided) in
          let P : Answer → Type 0 = λ b. HasItsOwn w m.party (inside z (Some b)) in
          stays_full w m (Answer.Ready (Got.Value v)) u l v (subst P same own)

told_value : (w : World) (m : Move) (a : Answer) (u : World) → Legal w m a u → HasItsOwn w m.party (standing_of w m.party) → (v : ℕ) → a ≡ Answer.Ready (Got.Value v) → u.cell ≡ Full v
told_value w m a u l own v e = by_call (call_of w m) refl where
  so : Legal w m (Answer.Ready (Got.Value v)) u
  so = let P : Answer → Type 0 = λ b. Legal w m b u in subst P e l

  by_call : (o : Option Within) → call_of w m ≡ o → u.cell ≡ Full v
  by_call None none = let never : Answer.Ready (Got.Value v) ≡ Answer.NotPossible = so.possible.exactly.1 none in absurd (cc never)
  by_call (Some within) called = by_standing w m u v within (standing_of w m.party) so refl own called

value_on : (told : Option ℕ) (a : Answer) (c : Content) (v : ℕ) → value_after told a ≡ Some v → ((z : ℕ) → a ≡ Answer.Ready (Got.Value z) → c ≡ Full z) → ((z : ℕ) → told ≡ Some z → c ≡ Full z) → c ≡ Full v
value_on told (Answer.Ready (Got.Value z)) c v e now before = now z refl ∙ ap Full (some_eq e)
value_on told (Answer.Ready _) c v e now before = before v e
value_on told _ c v e now before = before v e

-- ---- what is known, and that all is well

chosen : (b : Bool) (x : Account) → x ≡ no_account → (if b then x else no_account) ≡ no_account
chosen true x e = e
chosen false x e = refl

module _ (k : Known) (t u : Table OnceCell) (m : Move) (a : Answer) where
  pub holds_well : IsCell t.machine → IsCellTable t → Legal (view_of t) m a (view_of u) → Quiet m.what a → Tells k (view_of t) → IsSound (view_of u) → (is_at_rest (view_of u) ≡ true → IsAwake (view_of u)) → StepsWell Tells HoldsWell (learn k m a) (view_of u)
  holds_well laws fits l quietly tells sound awake = (
      let rights : (q : ℕ) → accounts_after k.accounts m a q ≡ no_account = λ q. rw (tells.rights q) (chosen (m.party == q) (account_after no_account m.what a) quietly) in
      let value : (v : ℕ) → value_after k.value a ≡ Some v → (view_of u).cell ≡ Full v = λ v e. value_on k.value a (view_of u).cell v e (λ z is. told_value (view_of t) m a (view_of u) l (each_has t laws fits m.party) z is) (λ z is. stays_full (view_of t) m a (view_of u) l z (tells.value z is)) in
      record {
        tells = record { rights = rights; value = value };
        well = record {
          no_rights = λ q r h. (let none : false ≡ true = sym (ap (λ (z : Account). z.has) (rights q)) ∙ h.0 in cc none);
          value = value;
          sound = sound;
          awake = awake;
        };
      }
      )

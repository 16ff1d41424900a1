-- After each step what is known tells the rights, if the party that moves keeps its account and the others theirs.
use Rattle.world_base.proofs.Prelude.{◌≡◌, ◌≢◌, ℕ, ◌==◌, true, refl, ap, sym, ◌∙◌, subst, Answer, Call, Move, What, Begin, Refusal, Holding, Finished, Stage, Outside, refused, polls_again}
use Rattle.std.proofs.Math.Decide.{ℕ_discrete}
use Rattle.world_base.proofs.Equations.{chosen, otherwise, same_test, other_test}
use Rattle.world_base.specs.Accounts.{Account, account_after, accounts_after}
use Rattle.world_base.specs.table.Rights.{TellsAccounts}

module _ {W : Type 0} (accounts_of : W → ℕ → Account) where
  pub tells_on : (known : ℕ → Account) (w : W) (m : Move) (a : Answer) (v : W) → TellsAccounts accounts_of known w
      → account_after (accounts_of w m.party) m.what a ≡ accounts_of v m.party → ((q : ℕ) → q ≢ m.party → accounts_of v q ≡ accounts_of w q) → TellsAccounts accounts_of (accounts_after known m a) v
  tells_on known w m a v tells own others q = elim (ℕ_discrete q m.party) as (λ _. accounts_after known m a q ≡ accounts_of v q) [
    | yes e ↦ chosen (m.party == q) (account_after (known q) m.what a) (known q) (same_test m.party q (sym e))
        ∙ (ap (λ k. account_after k m.what a) (tells q) ∙ (let P : ℕ → Type 0 = λ k. account_after (accounts_of w k) m.what a ≡ accounts_of v k in subst P (sym e) own))
    | no apart ↦ otherwise (m.party == q) (account_after (known q) m.what a) (known q) (other_test m.party q (λ e. apart (sym e))) ∙ (tells q ∙ sym (others q apart))
  ]

-- a move that isn't possible changes no account, and nor does a poll after ready
pub idle_account : (k : Account) (what : What) → account_after k what Answer.NotPossible ≡ k
idle_account k (Begin Call.TryUpgrade i) = refl
idle_account k _ = refl

pub again_account : (k : Account) (s : Stage) (what : What) → polls_again s what ≡ true → account_after k what (refused Refusal.Finished) ≡ k
again_account k (Outside Holding) (Begin Call.Poll i) h = refl
again_account k (Outside Finished) (Begin Call.Poll i) h = refl
again_account k _ _ h = absurd (cc (h))

-- After each step the rights by the answers are the state's.
use Rattle.world_rwlock.proofs.Prelude.{◌≡◌, ◌≢◌, ℕ, ◌<◌, Bool, true, false, List, [], ◌∷◌, Option, Some, None, is_some, zero, suc, length, refl, arith, ap, sym, ◌∙◌, subst, get_or, Answer, Call, Value, Inputs, Move, What, Begin, Go, Rest, Within, Account, sought_after, has_after, account_after, accounts_after, HasByAnswers, is_poll_after_ready, put_in, Right, Standing, outside, inside, forgotten, call_in, is_possible, StandsAfter, World, standing_of, sought_by, knows, call_of, HasItsOwn, Legal, IsSound, IsAwake, is_at_rest, account_by, TellsAccounts, right_in, accounts_of, HasJustItsRights, HasItsRights, HoldsWell}
use Rattle.std.proofs.lemmas.List.{get_or-set_same}
use Rattle.world_base.proofs.of_table.Rights.{tells_on}
use Rattle.world_rwlock.proofs.rights.Held.{state_rights, holds_by}
use Rattle.world_rwlock.proofs.rights.Moved.{has_standing, account, Beginning, begun, from_outside, from_inside}
use Rattle.world_rwlock.proofs.rights.Others.{others}

-- a party that isn't forgotten is in the table
in_table : (ss : List Standing) (p : ℕ) → get_or ss p forgotten ≢ forgotten → p < length ss
in_table [] p n = absurd (n refl)
in_table (s ∷ ss) zero n = omega arith
in_table (s ∷ ss) (suc p) n = let h = in_table ss p n in omega (arith, h)

same_account : (s t : Option Right) (g h : Bool) → s ≡ t → g ≡ h → account s g ≡ account t h
same_account s t g h es eh = ap (λ x. account x g) es ∙ ap (account t) eh

-- the account of a party that isn't forgotten
of_standing : (s : Standing) (o x : Option Right) → s ≢ forgotten → account_by s o x ≡ account o (has_standing s)
of_standing (outside Rest.Idle) o x n = refl
of_standing (outside Rest.Pending) o x n = refl
of_standing (outside Rest.Holding) o x n = refl
of_standing (outside Rest.Finished) o x n = refl
of_standing (inside u d) o x n = refl
of_standing forgotten o x n = absurd (n refl)

-- whoever was in a call or began one isn't forgotten
stands_on : (u : Within) (a : Answer) (t : Standing) → StandsAfter Rest.Holding u a t → t ≢ forgotten
stands_on u Answer.Stepped t s e = absurd (cc (sym s.1 ∙ e))
stands_on u _ t s e = absurd (cc (sym s.1 ∙ e))

module _ (w : World) (m : Move) (a : Answer) (v : World) (sound : IsSound w) (legal : Legal w m a v) (then_sound : IsSound v) where
  refused_move : call_of w m ≡ None → a ≡ Answer.NotPossible
  refused_move none = legal.possible.exactly.1 none

  is_possible_move : (u : Within) → call_of w m ≡ Some u → is_possible a ≡ true
  is_possible_move u e = possible_but a (λ n. let none = legal.possible.exactly.0 n in absurd (cc)) where
    possible_but : (b : Answer) → (b ≡ Answer.NotPossible → ⊥) → is_possible b ≡ true
    possible_but Answer.NotPossible h = absurd (h refl)
    possible_but _ h = refl

  -- what the moving party seeks then
  seeks : standing_of w m.party ≢ forgotten → sought_by v m.party ≡ sought_after (sought_by w m.party) m.what a
  seeks n =
      let low : m.party < length w.standings = in_table w.standings m.party n in
      let few : m.party < length w.sought = omega (arith, low, sound.as_many_seek) in
      ap (λ l. get_or l m.party None) legal.one_change.sought ∙ get_or-set_same w.sought m.party (sought_after (sought_by w m.party) m.what a) None few

  -- whoever has a right then seeks it
  seeks_some : standing_of v m.party ≡ outside Rest.Holding → is_some (sought_by v m.party) ≡ true
  seeks_some e =
      let P : Standing → Type 0 = λ s. HasItsOwn v m.party s in
      let own : HasItsOwn v m.party (outside Rest.Holding) = subst P e (then_sound.each m.party) in
      ap is_some own.1.1

  begins : (r : Rest) (c : Call) (i : Inputs) (u : Within) → standing_of w m.party ≡ outside r → m.what ≡ Begin c i → call_in (knows (sought_by w m.party)) (outside r) (Begin c i) ≡ Some u → Beginning (sought_by w m.party) r c i a (standing_of v m.party)
  begins r c i u se we e =
      let same : call_of w m ≡ Some u = ap (λ s. call_in (knows (sought_by w m.party)) s m.what) se ∙ (ap (call_in (knows (sought_by w m.party)) (outside r)) we ∙ e) in
      let S : Within → Type 0 = λ u. StandsAfter Rest.Holding u a (standing_of v m.party) in
      record {
        stands = subst S (begun (sought_by w m.party) r c i u e).2 (legal.ends_properly.stands u same);
        after_ready = λ h. legal.refused_for_cause.after_ready.1 (ap (λ s. is_poll_after_ready s m.what) se ∙ (ap (is_poll_after_ready (outside r)) we ∙ h));
        put = λ n h. (Value n, (legal.value_kept.put n (ap put_in we ∙ h) (is_possible_move u same)).0);
        seeks = λ h. ap (λ x. is_some (sought_after (sought_by w m.party) x a)) (sym we) ∙ (sym (ap is_some (seeks (λ n. absurd (cc (sym se ∙ n))))) ∙ seeks_some h);
      }

  moved : (s : Standing) → standing_of w m.party ≡ s → s ≢ forgotten → standing_of v m.party ≢ forgotten → has_standing (standing_of v m.party) ≡ has_after (account (sought_by w m.party) (has_standing s)) m.what a
      → accounts_of v m.party ≡ account_after (accounts_of w m.party) m.what a
  moved s se n on has =
      let m_stands : standing_of w m.party ≢ forgotten = λ e. n (sym se ∙ e) in
      let was : accounts_of w m.party ≡ account (sought_by w m.party) (has_standing s) = ap (λ s. account_by s (sought_by w m.party) (right_in w m.party)) se ∙ of_standing s (sought_by w m.party) (right_in w m.party) n in
      of_standing (standing_of v m.party) (sought_by v m.party) (right_in v m.party) on
      ∙ (same_account (sought_by v m.party) (sought_after (sought_by w m.party) m.what a) (has_standing (standing_of v m.party)) (has_after (account (sought_by w m.party) (has_standing s)) m.what a) (seeks m_stands) has
      ∙ ap (λ k. account_after k m.what a) (sym was))

  own_by : (s : Standing) (what : What) → standing_of w m.party ≡ s → m.what ≡ what → (o : Option Within) → call_in (knows (sought_by w m.party)) s what ≡ o → accounts_of v m.party ≡ account_after (accounts_of w m.party) m.what a
  own_by s what se we None e =
      let none : call_of w m ≡ None = ap (λ s. call_in (knows (sought_by w m.party)) s m.what) se ∙ (ap (call_in (knows (sought_by w m.party)) s) we ∙ e) in
      ap (λ x. accounts_of x m.party) (legal.possible.unchanged (refused_move none)) ∙ sym (ap (account_after (accounts_of w m.party) m.what) (refused_move none))
  own_by (outside r) (Begin c i) se we (Some u) e =
      let can = begun (sought_by w m.party) r c i u e in
      let b = begins r c i u se we e in
      moved (outside r) se (λ h. cc) (stands_on _ a (standing_of v m.party) b.stands)
      (from_outside (sought_by w m.party) r c i a (standing_of v m.party) can.0 can.1 b ∙ ap (λ x. has_after (account (sought_by w m.party) (has_standing (outside r))) x a) (sym we))
  own_by (inside u d) (Go i) se we (Some x) e =
      let same : call_of w m ≡ Some u = ap (λ s. call_in (knows (sought_by w m.party)) s m.what) se ∙ ap (call_in (knows (sought_by w m.party)) (inside u d)) we in
      let stands = legal.ends_properly.stands u same in
      let seeking : sought_by v m.party ≡ sought_after (sought_by w m.party) (Go i) a = seeks (λ h. absurd (cc (sym se ∙ h))) ∙ ap (λ x. sought_after (sought_by w m.party) x a) we in
      moved (inside u d) se (λ h. cc) (stands_on u a (standing_of v m.party) stands)
      (from_inside (sought_by w m.party) u.kind u.was i a (standing_of v m.party) (sound.inside_calls m.party u d se) (sound.drops_seek_nothing m.party u d se) (λ h. sym (ap is_some seeking) ∙ seeks_some h) stands
      ∙ ap (λ x. has_after (account (sought_by w m.party) false) x a) (sym we))
  own_by (outside r) (Go i) se we (Some x) e = absurd (cc)
  own_by (inside u d) (Begin c i) se we (Some x) e = absurd (cc)
  own_by forgotten (Begin c i) se we (Some x) e = absurd (cc)
  own_by forgotten (Go i) se we (Some x) e = absurd (cc)

  pub own : accounts_of v m.party ≡ account_after (accounts_of w m.party) m.what a
  own = own_by (standing_of w m.party) m.what refl refl (call_of w m) refl

moved_rights : (known found : ℕ → Account) (w : World) → ((p : ℕ) → known p ≡ found p) → HasItsRights found w → HasItsRights known w
moved_rights known found w same rights p out = let P : Account → Type 0 = λ k. HasJustItsRights k w p in subst P (sym (same p)) (rights p out)

moved_has : (k l : Account) (r : Right) → k ≡ l → HasByAnswers k r → HasByAnswers l r
moved_has k l r e h = let P : Account → Type 0 = λ x. HasByAnswers x r in subst P e h

-- all is well after a step from a World of which just this is known
pub holds_well : (known : ℕ → Account) (w : World) (m : Move) (a : Answer) (v : World) → TellsAccounts accounts_of known w → IsSound w → Legal w m a v → IsSound v → (is_at_rest v ≡ true → IsAwake v)
    → TellsAccounts accounts_of (accounts_after known m a) v × HoldsWell (accounts_after known m a) v
holds_well known w m a v same sound legal then_sound then_awake =
    let after : TellsAccounts accounts_of (accounts_after known m a) v = tells_on accounts_of known w m a v same (sym (own w m a v sound legal then_sound)) (others w m a v legal) in (
      after,
      record {
        rights = moved_rights (accounts_after known m a) (accounts_of v) v after (state_rights v then_sound);
        exclusion = λ p q r s hp hq x. then_sound.exclusion p q r s (holds_by v then_sound p r (moved_has _ _ r (after p) hp)) (holds_by v then_sound q s (moved_has _ _ s (after q) hq)) x;
        sound = then_sound;
        awake = then_awake;
      },
    )

-- The memo goes out for the right to the writer lock's room, and comes back for it. Assumes `Logic`.
use Rattle.std.proofs.Common.{◌≡◌, ℕ, List, [], ◌∷◌, refl, sym, ap, ◌∙◌}
use mathlib.Core.Bool.{Bool, true, false}
use native.Mathlib.Nat.{suc-ne-zero}
use seplogic.Ra.Ura.{Ura}
use base.Fraction.{full_share}
use base.Stored.{Gv, Coded, gnum, num}
use base.Logic.{SProp, ent, sep, ex, emp, upd, upd_i}
use base.Fml.{GName, Share, Fml, fsep, fex, fbor, flft, fobs, fauth, fnamed}
use types.Logic.{Logic, sem}
use types.Tokens.{lft_new, lft_end, name_new, bor_open, obor_close}
use types.Kit.{‵, raw, ◌⊛◌, given, later, ◌$◌, ◌∵◌, !, qed, by, move, keep, split, join, fsplit, fsplit3, fjoin, fpick, fpack, learn, show, suffices, settle, updating, await, now, done, use1, use2, rewrite}
use denote.RattleType.{RattleType, RowLaws}
use denote.Builtin.{unit}
use denote.Memory.{part_at}
use Rattle.atomic_table.specs.Seated.{TableId}
use Rattle.lock_place.specs.Held.{RoomId, age, held, hold_owns}
use Rattle.access_vault.specs.Vault.{Cell, Rights, memo, keeps, account_at, account, vault}
use Rattle.access_vault.proofs.Lending.{vault_open}

-- there is one half of a name that sees its value
pub no_two : {M : Type 1} {𝓤 : Ura M} (𝓛 : Logic 𝓤) (γ : GName) (u v w : Gv) (Z : SProp 𝓤) → ent 𝓤 (sep 𝓤 (sem 𝓛 (fobs γ u)) (sep 𝓤 (sem 𝓛 (fobs γ v)) (sem 𝓛 (fauth γ w)))) (upd 𝓤 Z)
no_two {𝓤 = 𝓤} 𝓛 γ u v w Z = let Set : ℕ → SProp 𝓤 = λ n. sep 𝓤 (sem 𝓛 (fobs γ (gnum n))) (sem 𝓛 (fauth γ (gnum n))) in
    qed 𝓛 (‵ (fobs γ u) ∷ ‵ (fobs γ v) ∷ ‵ (fauth γ w) ∷ []) ∵ move ! (1 ∷ 2 ∷ []) $ use2 𝓛 (raw (upd 𝓤 (Set 0))) (𝓛.names.name_set_upd γ v w (gnum 0)) $ settle 𝓛 Z (‵ (fobs γ (gnum 0)) ⊛ ‵ (fauth γ (gnum 0))) $ split ! $ move ! (2 ∷ 1 ∷ []) $
    use2 𝓛 (given (u ≡ gnum 0) (‵ (fobs γ u) ⊛ ‵ (fauth γ (gnum 0)))) (𝓛.names.name_agree γ u (gnum 0)) $ learn ! (λ e. split ! $ move ! (2 ∷ 1 ∷ []) $
    use2 𝓛 (raw (upd 𝓤 (Set 1))) (𝓛.names.name_set_upd γ (gnum 0) (gnum 0) (gnum 1)) $ settle 𝓛 Z (‵ (fobs γ (gnum 1)) ⊛ ‵ (fauth γ (gnum 1))) $ split ! $ move ! (2 ∷ 1 ∷ []) $
    use2 𝓛 (given (u ≡ gnum 1) (‵ (fobs γ u) ⊛ ‵ (fauth γ (gnum 1)))) (𝓛.names.name_agree γ u (gnum 1)) $ learn ! (λ e'. absurd (suc-ne-zero 0 (ap num (sym e' ∙ e)))))

module _ {M : Type 1} {𝓤 : Ura M} (𝓛 : Logic 𝓤) (R : RattleType) (L : RowLaws R) (z : RoomId) {V : Type 0} (cv : Coded V) (k : Rights V) (t : TableId) (δ μ : ℕ) (ρ : RoomId) where
  open 𝓛 use {H, A}

  abbrev Pr : Type 2
  Pr = SProp 𝓤

  abbrev ◌⊢◌ : Pr → Pr → Type 1
  P ⊢ Q = ent 𝓤 P Q

  abbrev ◌∗◌ : Pr → Pr → Pr
  P ∗ Q = sep 𝓤 P Q

  abbrev ⟦◌⟧ : Fml → Pr
  ⟦ P ⟧ = sem 𝓛 P

  infix 26 ◌⊢◌
  infixr 35 ◌∗◌
  abbrev Acc : Fml
  Acc = account R z cv k t δ μ

  abbrev Vm : Fml
  Vm = vault R z cv k t δ μ ρ

  abbrev Memo : R.Denot → Fml
  Memo = memo R μ

  abbrev Here : Bool → Fml
  Here = keeps R μ ρ

  -- where lending goes on, the vault's own half of the name is there
  known_in : (u v : Gv) (Z : Pr) (l : List (Cell V)) (b : Bool) → ⟦ account_at R z cv k t δ μ l b ⟧ ∗ ⟦ fobs μ u ⟧ ∗ ⟦ fobs μ v ⟧ ⊢ upd 𝓤 Z
  known_in u v Z l true = qed 𝓛 (‵ (account_at R z cv k t δ μ l true) ∷ ‵ (fobs μ u) ∷ ‵ (fobs μ v) ∷ []) ∵ fsplit3 ! $ move ! (2 ∷ []) $ fpick ! (λ w. fsplit ! $ move ! (1 ∷ []) $ fsplit ! $ keep ! (5 ∷ 6 ∷ 1 ∷ []) $ by ! (no_two 𝓛 μ u v (R.coded.code w.1.1) Z))
  known_in u v Z l false = qed 𝓛 (‵ (account_at R z cv k t δ μ l false) ∷ ‵ (fobs μ u) ∷ ‵ (fobs μ v) ∷ []) ∵ fsplit3 ! $ move ! (2 ∷ []) $ fsplit ! $ move ! (1 ∷ []) $ fpick ! (λ w. keep ! (4 ∷ 5 ∷ 0 ∷ []) $ by ! (no_two 𝓛 μ u v w Z))

  -- what somebody has who has the right to the room, with its borrow open
  abbrev Out : Gv → Pr
  Out w = ⟦ fex R.Denot Memo ⟧ ∗ ⟦ fauth ρ.name w ⟧

  abbrev In : Gv → Pr
  In w = ⟦ fobs ρ.name w ⟧ ∗ ⟦ fauth ρ.name w ⟧

  comes_out : (u w : Gv) (b : Bool) → ⟦ Acc ⟧ ∗ ⟦ Here b ⟧ ∗ ⟦ fobs ρ.name u ⟧ ∗ ⟦ fauth ρ.name w ⟧ ⊢ upd 𝓤 (⟦ Vm ⟧ ∗ Out w)
  comes_out u w true = let Z : Pr = ⟦ Vm ⟧ ∗ Out w in qed 𝓛 (‵ Acc ∷ ‵ (Here true) ∷ ‵ (fobs ρ.name u) ∷ ‵ (fauth ρ.name w) ∷ []) ∵ suffices ! _ (upd_i 𝓤 Z) $ move ! (2 ∷ []) $
      fpack ! Gv (fobs ρ.name) u $ fpack ! Bool Here false $ move ! (1 ∷ 0 ∷ []) $ fjoin ! $ done !
  comes_out u w false = qed 𝓛 (‵ Acc ∷ ‵ (Here false) ∷ ‵ (fobs ρ.name u) ∷ ‵ (fauth ρ.name w) ∷ []) ∵ move ! (1 ∷ []) $ fpick ! (λ v. keep ! (0 ∷ 2 ∷ 3 ∷ []) $ by ! (no_two 𝓛 ρ.name v u w (⟦ Vm ⟧ ∗ Out w)))

  goes_in : (x : R.Denot) (w : Gv) (b : Bool) → ⟦ Acc ⟧ ∗ ⟦ Here b ⟧ ∗ ⟦ Memo x ⟧ ∗ ⟦ fauth ρ.name w ⟧ ⊢ upd 𝓤 (⟦ Vm ⟧ ∗ In w)
  goes_in x w true = qed 𝓛 (‵ Acc ∷ ‵ (Here true) ∷ ‵ (Memo x) ∷ ‵ (fauth ρ.name w) ∷ []) ∵ move ! (1 ∷ []) $ fpick ! (λ y. keep ! (1 ∷ 0 ∷ 2 ∷ []) $
      fpick ! (λ l. fpick ! (λ b. by ! (known_in (R.coded.code y) (R.coded.code x) (⟦ Vm ⟧ ∗ In w) l b))))
  goes_in x w false = let Z : Pr = ⟦ Vm ⟧ ∗ In w in qed 𝓛 (‵ Acc ∷ ‵ (Here false) ∷ ‵ (Memo x) ∷ ‵ (fauth ρ.name w) ∷ []) ∵ move ! (1 ∷ []) $ fpick ! (λ v. move ! (0 ∷ 3 ∷ []) $
      use2 𝓛 (given (v ≡ w) (‵ (fobs ρ.name v) ⊛ ‵ (fauth ρ.name w))) (𝓛.names.name_agree ρ.name v w) $ learn ! (λ e. split ! $ rewrite ! 0 (λ (u : Gv). ‵ (fobs ρ.name u)) e refl $ suffices ! _ (upd_i 𝓤 Z) $
      -- sees, known, account, memo
      move ! (3 ∷ []) $ fpack ! R.Denot Memo x $ fpack ! Bool Here true $ move ! (3 ∷ 0 ∷ []) $ fjoin ! $ done !))

  pub comes : (u w : Gv) → ⟦ Vm ⟧ ∗ (⟦ fobs ρ.name u ⟧ ∗ ⟦ fauth ρ.name w ⟧) ⊢ upd 𝓤 (⟦ Vm ⟧ ∗ Out w)
  comes u w = qed 𝓛 (‵ Vm ∷ ‵ (fobs ρ.name u) ∷ ‵ (fauth ρ.name w) ∷ []) ∵ fsplit ! $ move ! (1 ∷ []) $ fpick ! (λ b. move ! (1 ∷ 0 ∷ []) $ by ! (comes_out u w b))

  pub goes : (x : R.Denot) (w : Gv) → ⟦ Vm ⟧ ∗ (⟦ Memo x ⟧ ∗ ⟦ fauth ρ.name w ⟧) ⊢ upd 𝓤 (⟦ Vm ⟧ ∗ In w)
  goes x w = qed 𝓛 (‵ Vm ∷ ‵ (Memo x) ∷ ‵ (fauth ρ.name w) ∷ []) ∵ fsplit ! $ move ! (1 ∷ []) $ fpick ! (λ b. move ! (1 ∷ 0 ∷ []) $ by ! (goes_in x w b))

  -- the right's borrow, and what it lends
  abbrev Bor : Fml
  Bor = fbor (age ρ) (held unit ρ)

  abbrev Body : unit.Denot → Fml
  Body w = fsep (part_at unit full_share w ρ.block ρ.offset) (fauth ρ.name (unit.coded.code w))

  abbrev Whole : R.Denot → Fml
  Whole x = fsep (Memo x) Bor

  module _ (m : ℕ) (s : Share) where
    pub takes : (w : unit.Denot) → A.named m Vm ∗ ⟦ hold_owns unit ρ w ⟧ ∗ A.lft (age ρ) s ⊢ H.⇛ (⟦ fex R.Denot Whole ⟧ ∗ A.lft (age ρ) s)
    takes w = qed 𝓛 (‵ (fnamed m Vm) ∷ ‵ (hold_owns unit ρ w) ∷ ‵ (flft (age ρ) s) ∷ []) {P = H.⇛ (⟦ fex R.Denot Whole ⟧ ∗ A.lft (age ρ) s)} (updating ! $ move ! (1 ∷ []) $ fsplit ! $ move ! (1 ∷ 3 ∷ []) $ bor_open ! tt $
        -- open, body, sees, vault
        move ! (1 ∷ []) $ fpick ! (λ v. fsplit ! $ let u : Gv = unit.coded.code w in let c : Gv = unit.coded.code v in
        -- part, known, open, sees, vault
        move ! (3 ∷ 1 ∷ []) $ join ! $ move ! (3 ∷ 0 ∷ []) $
        use2 𝓛 (later (‵ (fex R.Denot Memo) ⊛ ‵ (fauth ρ.name c))) (vault_open 𝓛 R L z cv k t δ μ ρ m (⟦ fobs ρ.name u ⟧ ∗ ⟦ fauth ρ.name c ⟧) (Out c) (comes u c)) $ await ! tt $ split ! $
        -- memo, known, part, open
        fpick ! (λ x. move ! (2 ∷ 1 ∷ []) $ fjoin ! $ fpack ! unit.Denot Body v $ move ! (2 ∷ 0 ∷ []) $ obor_close ! tt $ move ! (2 ∷ 0 ∷ []) $ fjoin ! $ fpack ! R.Denot Whole x $ now ! $ done !)))

    pub gives : (x : R.Denot) → A.named m Vm ∗ ⟦ Whole x ⟧ ∗ A.lft (age ρ) s ⊢ H.⇛ (⟦ fex unit.Denot (hold_owns unit ρ) ⟧ ∗ A.lft (age ρ) s)
    gives x = qed 𝓛 (‵ (fnamed m Vm) ∷ ‵ (Whole x) ∷ ‵ (flft (age ρ) s) ∷ []) {P = H.⇛ (⟦ fex unit.Denot (hold_owns unit ρ) ⟧ ∗ A.lft (age ρ) s)} (updating ! $ move ! (1 ∷ []) $ fsplit ! $ move ! (1 ∷ 3 ∷ []) $ bor_open ! tt $
        -- open, body, memo, vault
        move ! (1 ∷ []) $ fpick ! (λ v. fsplit ! $ let c : Gv = unit.coded.code v in
        move ! (3 ∷ 1 ∷ []) $ join ! $ move ! (3 ∷ 0 ∷ []) $
        use2 𝓛 (later (‵ (fobs ρ.name c) ⊛ ‵ (fauth ρ.name c))) (vault_open 𝓛 R L z cv k t δ μ ρ m (⟦ Memo x ⟧ ∗ ⟦ fauth ρ.name c ⟧) (In c) (goes x c)) $ await ! tt $ split ! $
        -- sees, known, part, open
        move ! (2 ∷ 1 ∷ []) $ fjoin ! $ fpack ! unit.Denot Body v $ move ! (2 ∷ 0 ∷ []) $ obor_close ! tt $ move ! (2 ∷ 0 ∷ []) $ fjoin ! $ fpack ! unit.Denot (hold_owns unit ρ) v $ now ! $ done !))

-- a hold of no room: its borrow is of an age that has ended
pub nowhere : {M : Type 1} {𝓤 : Ura M} (𝓛 : Logic 𝓤) → ent 𝓤 (emp 𝓤) (𝓛.H.⇛ (ex 𝓤 (λ (ρ : RoomId). sem 𝓛 (hold_owns unit ρ tt))))
nowhere {𝓤 = 𝓤} 𝓛 = let Held : RoomId → SProp 𝓤 = λ ρ. sem 𝓛 (hold_owns unit ρ tt) in qed 𝓛 [] {P = 𝓛.H.⇛ (ex 𝓤 Held)} (updating ! $ lft_new ! tt (λ a. lft_end ! tt $ name_new ! tt (unit.coded.code tt) (λ n.
    let ρ : RoomId = record { block = 0; offset = 0; atom = a; name = n } in
    -- sees, known, dead
    move ! (2 ∷ []) $ use1 𝓛 (later (‵ (fbor (age ρ) (held unit ρ)))) (𝓛.bors.bor-dead (age ρ) (held unit ρ)) $ await ! tt $ move ! (1 ∷ 0 ∷ []) $ fjoin ! $ now ! $ show ! Held ρ $ keep ! (0 ∷ []) $ done !)))

-- What a vault lends against a seat, and takes back: ghost steps, with the table's invariant and the vault's own open. Assumes `Logic`.
use Rattle.std.proofs.Common.{◌≡◌, ℕ, zero, suc, ◌+◌, ◌<◌, List, [], ◌∷◌, ◌++◌, length, set, sym, refl, ap, ◌∙◌, arith, ⊎_elim}
use mathlib.Core.Bool.{Bool, true, false}
use mathlib.Core.Logic.{◌⊎◌, inl, inr, dite}
use mathlib.Core.Option.{some, some-injective, some-ne-none}
use native.Mathlib.Decide.{ℕ_discrete}
use lib.ListN.{get_elem?}
use seplogic.Ra.Ura.{Ura}
use base.Share
use base.Fraction.{full_share}
use base.Share.{three_quarters}
use base.Stored.{Gv, Coded}
use base.Logic.{SProp, ent, sep, ex, guard, upd, emp, via, upd_i, id⊢, emp∗, snd∗}
use base.Fml.{Lft, Share, Fml, ftrue, fsep, fex, fbor, flft, fobs, fauth, fnamed, finv}
use base.Several.{Apart, bodies}
use mathlib.Core.HLevel.{⊥_prop}
use mathlib.Core.Logic.Or
use mathlib.Core.List.{mem-cons, not-mem-nil}
use types.Logic.{Logic, sem}
use types.Kit.{‵, raw, ◌⊛◌, some, given, ◌$◌, ◌∵◌, !, qed, by, move, keep, drop, split, split3, join, fsplit, fsplit3, fjoin, fjoin3, fpick, fpack, pick, learn, show, check, frame, assume, suffices, settle, done, use0, use1, use2, use3, rewrite}
use denote.RattleType.{RattleType, RowLaws}
use denote.SharingLaws.{contraction}
use denote.Steps.{nothing}
use Rattle.atomic_table.specs.Table.{State}
use Rattle.atomic_table.specs.Seated.{TableId, seen, roster, inner, standing}
use denote.RawPtr.{Ptr}
use Rattle.atomic_table.proofs.Lists.{set_again}
use Rattle.atomic_table.proofs.Roster.{Moved, moves, Joined, joins, apart}
use Rattle.lock_place.specs.Held.{RoomId, age, seen_at}
use Rattle.words_base.specs.Sums.{weight, number}
use Rattle.words_base.proofs.Sums as word
use Rattle.access_vault.specs.Vault.{Round, round_of, Cell, cell_coded, reading, writing, emptied, is_one, is_more, cell_reads, cell_writes, Fills, Rights, Excludes, seat, pledged, pledges, is_shared_for, sight, stock, desk, pledge, memo, shared, calm_with, calm, account_at, either_way, account, vault}
use Rattle.access_vault.proofs.Fills.{fills_more, fills_less, fills_all, whole_fills, number-more}

module _ {M : Type 1} {𝓤 : Ura M} (𝓛 : Logic 𝓤) (R : RattleType) (L : RowLaws R) (z : RoomId) {V : Type 0} (cv : Coded V) (k : Rights V) (t : TableId) (δ μ : ℕ) (ρ : RoomId) where
  open 𝓛 use {H, A}

  abbrev Pr : Type 2
  Pr = SProp 𝓤

  abbrev ◌⊢◌ : Pr → Pr → Type 1
  P ⊢ Q = ent 𝓤 P Q

  abbrev ◌∗◌ : Pr → Pr → Pr
  P ∗ Q = sep 𝓤 P Q

  abbrev ⟦◌⟧ : Fml → Pr
  ⟦ P ⟧ = sem 𝓛 P

  infix 26 ◌⊢◌
  infixr 35 ◌∗◌
  abbrev C : Type 0
  C = Cell V

  abbrev cc : Coded C
  cc = cell_coded cv

  abbrev S : ℕ → V → Fml
  S = seat cv.code k t

  abbrev P : List C → Fml
  P = pledges cv.code k t

  abbrev Of : C → ℕ → Fml
  Of = pledged cv.code k t

  abbrev D : List C → Fml
  D = desk R z cv k t δ

  abbrev G : ℕ → C → Fml
  G = pledge R z cv k t δ

  -- ---- pledges
  pub pledges_add : (l : List C) (x : C) → ⟦ P l ⟧ ∗ ⟦ Of x x.kind ⟧ ⊢ ⟦ P (l ++ x ∷ []) ⟧
  pledges_add [] x = qed 𝓛 (‵ ftrue ∷ ‵ (Of x x.kind) ∷ []) ∵ drop ! $ use0 𝓛 (‵ ftrue) (id⊢ 𝓤 (emp 𝓤)) $ move ! (1 ∷ 0 ∷ []) $ fjoin ! $ done !
  pledges_add (y ∷ ys) x = qed 𝓛 (‵ (P (y ∷ ys)) ∷ ‵ (Of x x.kind) ∷ []) ∵ fsplit ! $ move ! (1 ∷ 2 ∷ []) $ use2 𝓛 (‵ (P (ys ++ x ∷ []))) (pledges_add ys x) $ move ! (1 ∷ 0 ∷ []) $ fjoin ! $ done !

  pub pledges_take : (l : List C) (j : ℕ) (x : C) → get_elem? l j ≡ some x → ⟦ P l ⟧ ⊢ ⟦ Of x x.kind ⟧ ∗ ⟦ P (set l j (emptied x)) ⟧
  pledges_take [] j x at = absurd (some-ne-none x (sym at))
  pledges_take (y ∷ ys) zero x at = qed 𝓛 (‵ (P (y ∷ ys)) ∷ []) ∵ fsplit ! $ rewrite ! 0 (λ (c : C). ‵ (Of c c.kind)) (some-injective y x at) refl $ frame ! $ use0 𝓛 (‵ ftrue) (id⊢ 𝓤 (emp 𝓤)) $ fjoin ! $ done !
  pledges_take (y ∷ ys) (suc j) x at = qed 𝓛 (‵ (P (y ∷ ys)) ∷ []) ∵ fsplit ! $ move ! (1 ∷ []) $ use1 𝓛 (‵ (Of x x.kind) ⊛ ‵ (P (set ys j (emptied x)))) (pledges_take ys j x at) $ split ! $ frame ! $ move ! (1 ∷ 0 ∷ []) $ fjoin ! $ done !

  -- somebody who writes has a seat here
  abbrev Who : (V → Bool) → ℕ × V → Pr
  Who right u = guard 𝓤 (right u.1 ≡ true) ⟦ S u.0 u.1 ⟧

  mutual_writer : (x : C) (n : ℕ) (xs : List C) → 0 < weight (is_more n) + number cell_writes xs → (0 < number cell_writes xs → ⟦ P xs ⟧ ⊢ ex 𝓤 (Who k.writes)) → ⟦ Of x n ⟧ ∗ ⟦ P xs ⟧ ⊢ ex 𝓤 (Who k.writes)
  mutual_writer x zero xs left on = qed 𝓛 (‵ (Of x zero) ∷ ‵ (P xs) ∷ []) ∵ drop ! $ by ! (on (omega arith))
  mutual_writer x (suc zero) xs left on = qed 𝓛 (‵ (Of x 1) ∷ ‵ (P xs) ∷ []) ∵ drop ! $ by ! (on (omega arith))
  mutual_writer x (suc (suc n)) xs left on = qed 𝓛 (‵ (Of x (suc (suc n))) ∷ ‵ (P xs) ∷ []) ∵ fsplit ! $ fpick ! (λ h. drop ! $ show ! (Who k.writes) (x.seat, x.view) $ check ! h $ keep ! (0 ∷ []) $ done !)

  pub some_writer : (l : List C) → 0 < number cell_writes l → ⟦ P l ⟧ ⊢ ex 𝓤 (Who k.writes)
  some_writer [] left = absurd (omega arith)
  some_writer (x ∷ xs) left = qed 𝓛 (‵ (P (x ∷ xs)) ∷ []) ∵ fsplit ! $ by ! (mutual_writer x x.kind xs left (some_writer xs))

  mutual_reader : (x : C) (n : ℕ) (xs : List C) → 0 < weight (is_one n) + number cell_reads xs → (0 < number cell_reads xs → ⟦ P xs ⟧ ⊢ ex 𝓤 (Who k.reads)) → ⟦ Of x n ⟧ ∗ ⟦ P xs ⟧ ⊢ ex 𝓤 (Who k.reads)
  mutual_reader x zero xs left on = qed 𝓛 (‵ (Of x zero) ∷ ‵ (P xs) ∷ []) ∵ drop ! $ by ! (on (omega arith))
  mutual_reader x (suc zero) xs left on = qed 𝓛 (‵ (Of x 1) ∷ ‵ (P xs) ∷ []) ∵ fsplit ! $ fpick ! (λ h. drop ! $ show ! (Who k.reads) (x.seat, x.view) $ check ! h $ keep ! (0 ∷ []) $ done !)
  mutual_reader x (suc (suc n)) xs left on = qed 𝓛 (‵ (Of x (suc (suc n))) ∷ ‵ (P xs) ∷ []) ∵ drop ! $ by ! (on (omega arith))

  pub some_reader : (l : List C) → 0 < number cell_reads l → ⟦ P l ⟧ ⊢ ex 𝓤 (Who k.reads)
  some_reader [] left = absurd (omega arith)
  some_reader (x ∷ xs) left = qed 𝓛 (‵ (P (x ∷ xs)) ∷ []) ∵ fsplit ! $ by ! (mutual_reader x x.kind xs left (some_reader xs))

  -- ---- the table's rule excludes two seats
  abbrev γ : ℕ
  γ = t.views_name

  abbrev Views : List V → Fml
  Views = roster cv.code γ 0

  module _ {St : Type 0} (holds : State St V → Type 0) (only_one : Excludes k holds) where
    -- one seat writes, another reads or writes
    pub clash : (s : State St V) → holds s → (i j : ℕ) (v w : V) → k.writes v ≡ true → (k.reads w ≡ true) ⊎ (k.writes w ≡ true) → (Z : Pr) → ⟦ Views s.views ⟧ ∗ ⟦ S i v ⟧ ∗ ⟦ S j w ⟧ ⊢ upd 𝓤 Z
    clash s good i j v w writes other Z = let vs : List V = s.views in qed 𝓛 (‵ (Views vs) ∷ ‵ (S i v) ∷ ‵ (S j w) ∷ []) ∵ move ! (1 ∷ 2 ∷ []) $
        use2 𝓛 (given (¬ (j ≡ i)) (‵ (S i v) ⊛ ‵ (S j w))) (apart 𝓛 cv γ i j v w) $ learn ! (λ two. split ! $ move ! (2 ∷ 0 ∷ []) $
        use2 𝓛 (given (get_elem? vs i ≡ some v) (raw (base.Logic.all 𝓤 (Moved 𝓛 cv γ 0 vs i i)))) (moves 𝓛 cv γ vs 0 i i v (omega arith)) $ learn ! (λ here.
        use1 𝓛 (raw (Moved 𝓛 cv γ 0 vs i i v)) (base.Logic.all_e 𝓤 (Moved 𝓛 cv γ 0 vs i i) v) $ settle 𝓛 Z (‵ (Views (set vs i v)) ⊛ ‵ (S i v)) $ split ! $
        rewrite ! 0 (λ (l : List V). ‵ (Views l)) (set_again vs i v here) refl $ move ! (0 ∷ 2 ∷ []) $
        use2 𝓛 (given (get_elem? vs j ≡ some w) (raw (base.Logic.all 𝓤 (Moved 𝓛 cv γ 0 vs j j)))) (moves 𝓛 cv γ vs 0 j j w (omega arith)) $ learn ! (λ there.
        let no_more = only_one s good i j v w (λ e. two (sym e)) here there writes in absurd (⊎_elim (λ r. mathlib.Core.Bool.false≢true (sym no_more.0 ∙ r)) (λ r. mathlib.Core.Bool.false≢true (sym no_more.1 ∙ r)) other))))

  -- ---- the vault lends, and takes back
  abbrev Lends : Pr
  Lends = ⟦ account R z cv k t δ μ ⟧

  abbrev Memo : R.Denot → Fml
  Memo = memo R μ

  abbrev Shared : ℕ → Share → R.Denot → Fml
  Shared = shared R z cv k t δ μ

  abbrev Stock : ℕ → Share → R.Denot → Fml
  Stock = stock R z

  abbrev Sight : ℕ → R.Denot → Fml
  Sight = sight R z

  abbrev Wait : ℕ → Fml
  Wait = is_shared_for R z

  abbrev Obs : R.Denot → Fml
  Obs x = fobs z.name (R.coded.code x)

  abbrev Tok : ℕ → Share → Fml
  Tok a e = flft (a ∷ []) e

  sight_twice : (a : ℕ) (x : R.Denot) → ⟦ Sight a x ⟧ ⊢ ⟦ Sight a x ⟧ ∗ ⟦ Sight a x ⟧
  sight_twice a x = contraction 𝓛 (seen_at R z x) (L x z.block z.offset) (a ∷ age z)

  -- the vault is put together again
  pub calm_account : (l : List C) (u : ℕ × (Share × R.Denot)) → number cell_writes l ≡ 0 → Fills (round_of R u.0 u.1.1) u.1.0 l → ⟦ D l ⟧ ∗ ⟦ P l ⟧ ∗ ⟦ Shared u.0 u.1.0 u.1.1 ⟧ ⊢ Lends
  calm_account l u zero_writers f = qed 𝓛 (‵ (D l) ∷ ‵ (P l) ∷ ‵ (Shared u.0 u.1.0 u.1.1) ∷ []) ∵ move ! (2 ∷ []) $ nothing ! $ fpack ! ((number cell_writes l ≡ 0) × Fills (round_of R u.0 u.1.1) u.1.0 l) (λ _. ftrue) (zero_writers, f) $ fjoin ! $
      fpack ! (ℕ × (Share × R.Denot)) (calm_with R z cv k t δ μ l) u $ move ! (1 ∷ 2 ∷ 0 ∷ []) $ fjoin3 ! $ fpack ! Bool (account_at R z cv k t δ μ l) true $ fpack ! (List C) (either_way R z cv k t δ μ) l $ done !

  busy_account : (l : List C) → number cell_writes l ≡ 1 → number cell_reads l ≡ 0 → ⟦ D l ⟧ ∗ ⟦ P l ⟧ ∗ ⟦ fex Gv (fauth μ) ⟧ ⊢ Lends
  busy_account l one_writer zero_readers = qed 𝓛 (‵ (D l) ∷ ‵ (P l) ∷ ‵ (fex Gv (fauth μ)) ∷ []) ∵ nothing ! $ fpack ! ((number cell_writes l ≡ 1) × (number cell_reads l ≡ 0)) (λ _. ftrue) (one_writer, zero_readers) $
      move ! (0 ∷ 3 ∷ []) $ fjoin ! $ move ! (1 ∷ 2 ∷ 0 ∷ []) $ fjoin3 ! $ fpack ! Bool (account_at R z cv k t δ μ l) false $ fpack ! (List C) (either_way R z cv k t δ μ) l $ done !

  -- an account that goes with what was lent stands in the desk
  abbrev Stands : List C → ℕ → C → Pr
  Stands l j x = guard 𝓤 (get_elem? l j ≡ some x) (⟦ D l ⟧ ∗ ⟦ G j x ⟧)

  stands : (l : List C) (j : ℕ) (x : C) → ⟦ D l ⟧ ∗ ⟦ G j x ⟧ ⊢ upd 𝓤 (Stands l j x)
  stands l j x = let Z : Pr = Stands l j x in qed 𝓛 (‵ (D l) ∷ ‵ (G j x) ∷ []) ∵
      use2 𝓛 (given (get_elem? l j ≡ some x) (raw (base.Logic.all 𝓤 (Moved 𝓛 cc δ 0 l j j)))) (moves 𝓛 cc δ l 0 j j x (omega arith)) $ learn ! (λ at.
      use1 𝓛 (raw (Moved 𝓛 cc δ 0 l j j x)) (base.Logic.all_e 𝓤 (Moved 𝓛 cc δ 0 l j j) x) $ settle 𝓛 Z (‵ (D (set l j x)) ⊛ ‵ (G j x)) $ split ! $
      rewrite ! 0 (λ (m : List C). ‵ (D m)) (set_again l j x at) refl $ suffices ! _ (upd_i 𝓤 Z) $ check ! at $ done !)

  -- what a reader gets: an account of its pledge, a part of the round's token, and the sight of the value
  abbrev Lent : ℕ → V → ℕ × (Share × (ℕ × R.Denot)) → Pr
  Lent id v u = ⟦ G u.0 (reading id v u.1.0 (round_of R u.1.1.0 u.1.1.1)) ⟧ ∗ ⟦ Tok u.1.1.0 u.1.0 ⟧ ∗ ⟦ Sight u.1.1.0 u.1.1.1 ⟧

  abbrev Reader : ℕ → V → Pr
  Reader id v = ex 𝓤 (Lent id v)

  -- a reader more, where nobody writes
  calm_read : (l : List C) (id : ℕ) (v : V) → k.reads v ≡ true → ⟦ D l ⟧ ∗ ⟦ P l ⟧ ∗ ⟦ calm R z cv k t δ μ l ⟧ ∗ ⟦ S id v ⟧ ⊢ upd 𝓤 (Lends ∗ Reader id v)
  calm_read l id v right = let Z : Pr = Lends ∗ Reader id v in
      qed 𝓛 (‵ (D l) ∷ ‵ (P l) ∷ ‵ (calm R z cv k t δ μ l) ∷ ‵ (S id v) ∷ []) ∵ move ! (2 ∷ []) $ fpick ! (λ u. let a : ℕ = u.0 in let e : Share = u.1.0 in let y : R.Denot = u.1.1 in
      fsplit ! $ fpick ! (λ h. drop ! $ let x : C = reading id v (Share.right e) (round_of R a y) in let l' : List C = l ++ x ∷ [] in
      fsplit ! $ fsplit ! $ use1 𝓛 (‵ (Tok a (Share.left e)) ⊛ ‵ (Tok a (Share.right e))) (𝓛.lfts.lft_split (a ∷ []) e) $ split ! $
      -- left, right, rest, known, D, P, S
      move ! (2 ∷ []) $ fsplit ! $ use1 𝓛 (‵ (Sight a y) ⊛ ‵ (Sight a y)) (sight_twice a y) $ split ! $
      -- sight, sight, rest, left, right, known, D, P, S
      move ! (6 ∷ []) $ use1 𝓛 (raw (upd 𝓤 (ex 𝓤 (Joined 𝓛 cc δ 0 l x)))) (joins 𝓛 cc δ l 0 x) $ settle 𝓛 Z (some (λ (j : ℕ). ‵ (D l') ⊛ ‵ (G j x))) $ pick ! (λ j. split ! $
      -- D', G, sight, sight, rest, left, right, known, P, S
      move ! (9 ∷ []) $ nothing ! $ fpack ! (k.reads v ≡ true) (λ _. ftrue) right $ fjoin ! $ move ! (9 ∷ 0 ∷ []) $ use2 𝓛 (‵ (P l')) (pledges_add l x) $
      -- P', D', G, sight, sight, rest, left, right, known
      suffices ! _ (upd_i 𝓤 Z) $ move ! (3 ∷ 5 ∷ []) $ fjoin ! $ move ! (5 ∷ 0 ∷ []) $ fjoin ! $ move ! (0 ∷ 6 ∷ []) $ fjoin ! $
      move ! (2 ∷ 1 ∷ 0 ∷ []) $ use3 𝓛 (raw Lends) (calm_account l' (a, (Share.left e, y)) (let n = number-more cell_writes l x in let z₀ = h.0 in omega arith) (fills_more (round_of R a y) e (Share.left e) (Share.right e) l x h.1 (Share.halves e) refl refl refl)) $
      -- vault, G, sight, right
      frame ! $ show ! (Lent id v) (j, (Share.right e, (a, y))) $ move ! (0 ∷ 2 ∷ 1 ∷ []) $ done !)))

  -- a reader gives back its part, and has its seat again
  module _ (id : ℕ) (v : V) (e : Share) (r : Round) (j : ℕ) where
    abbrev x₀ : C
    x₀ = reading id v e r

    abbrev Z₀ : Pr
    Z₀ = Lends ∗ ⟦ S id v ⟧

    back : (l : List C) (b : Bool) → ⟦ account_at R z cv k t δ μ l b ⟧ ∗ ⟦ G j x₀ ⟧ ∗ ⟦ Tok r.0 e ⟧ ⊢ upd 𝓤 Z₀
    back l true = qed 𝓛 (‵ (account_at R z cv k t δ μ l true) ∷ ‵ (G j x₀) ∷ ‵ (Tok r.0 e) ∷ []) ∵ fsplit3 ! $ move ! (0 ∷ 3 ∷ []) $
        -- D, G, P, calm, Tok
        use2 𝓛 (given (get_elem? l j ≡ some x₀) (raw (base.Logic.all 𝓤 (Moved 𝓛 cc δ 0 l j j)))) (moves 𝓛 cc δ l 0 j j x₀ (omega arith)) $ learn ! (λ at.
        use1 𝓛 (raw (Moved 𝓛 cc δ 0 l j j (emptied x₀))) (base.Logic.all_e 𝓤 (Moved 𝓛 cc δ 0 l j j) (emptied x₀)) $ settle 𝓛 Z₀ (‵ (D (set l j (emptied x₀))) ⊛ ‵ (G j (emptied x₀))) $ split ! $
        -- D', G', P, calm, Tok
        move ! (2 ∷ []) $ use1 𝓛 (‵ (Of x₀ 1) ⊛ ‵ (P (set l j (emptied x₀)))) (pledges_take l j x₀ at) $ split ! $ fsplit ! $ drop ! $
        -- S, P', D', G', calm, Tok
        move ! (4 ∷ []) $ fpick ! (λ u. fsplit ! $ fpick ! (λ h. drop ! $ let less = fills_less (round_of R u.0 u.1.1) u.1.0 l j x₀ at refl h.1 in
        -- shared, S, P', D', G', Tok
        fsplit ! $ fsplit ! $ move ! (0 ∷ 7 ∷ []) $ rewrite ! 1 (λ (c : Round). ‵ (Tok c.0 e)) less.0 refl $ use2 𝓛 (‵ (Tok u.0 less.1.0)) (𝓛.lfts.lft_glue (u.0 ∷ []) less.1.0 u.1.0 e less.1.1) $
        -- Tok, rest, known, S, P', D', G'
        fjoin ! $ fjoin ! $ move ! (3 ∷ 2 ∷ 0 ∷ []) $
        use3 𝓛 (raw Lends) (calm_account (set l j (emptied x₀)) (u.0, (less.1.0, u.1.1)) (let n = word.number-set cell_writes l j x₀ (emptied x₀) at in let z₀ = h.0 in omega arith) less.1.2) $
        suffices ! _ (upd_i 𝓤 Z₀) $ keep ! (0 ∷ 1 ∷ []) $ done !)))
    back l false = qed 𝓛 (‵ (account_at R z cv k t δ μ l false) ∷ ‵ (G j x₀) ∷ ‵ (Tok r.0 e) ∷ []) ∵ fsplit3 ! $ move ! (0 ∷ 3 ∷ []) $
        use2 𝓛 (given (get_elem? l j ≡ some x₀) (raw (base.Logic.all 𝓤 (Moved 𝓛 cc δ 0 l j j)))) (moves 𝓛 cc δ l 0 j j x₀ (omega arith)) $ learn ! (λ at. drop ! $ move ! (1 ∷ []) $
        fsplit ! $ fpick ! (λ h. let n = word.number-at cell_reads l j x₀ at in let z₀ = h.1 in absurd (omega arith)))

    pub read_back : Lends ∗ ⟦ G j x₀ ⟧ ∗ ⟦ Tok r.0 e ⟧ ⊢ upd 𝓤 Z₀
    read_back = qed 𝓛 (‵ (account R z cv k t δ μ) ∷ ‵ (G j x₀) ∷ ‵ (Tok r.0 e) ∷ []) ∵ fpick ! (λ l. fpick ! (λ b. by ! (back l b)))

  -- two pledges to read are of one round: nobody writes, and the vault is shared for that round alone
  module _ (j j' : ℕ) (x x' : C) where
    abbrev pub Pair : Pr
    Pair = ⟦ G j x ⟧ ∗ ⟦ G j' x' ⟧

    abbrev pub Alike : Pr
    Alike = guard 𝓤 (x.round ≡ x'.round) Pair

    alike_in : cell_reads x ≡ true → cell_reads x' ≡ true → (l : List C) (b : Bool) → ⟦ account_at R z cv k t δ μ l b ⟧ ∗ Pair ⊢ upd 𝓤 (Lends ∗ Alike)
    alike_in one other l true = let Z : Pr = Lends ∗ Alike in qed 𝓛 (‵ (account_at R z cv k t δ μ l true) ∷ ‵ (G j x) ∷ ‵ (G j' x') ∷ []) ∵ fsplit3 ! $ move ! (0 ∷ 3 ∷ []) $
        -- D, G, P, calm, G'
        use2 𝓛 (raw (upd 𝓤 (Stands l j x))) (stands l j x) $ settle 𝓛 Z (given (get_elem? l j ≡ some x) (‵ (D l) ⊛ ‵ (G j x))) $ learn ! (λ here. split ! $ move ! (0 ∷ 4 ∷ []) $
        use2 𝓛 (raw (upd 𝓤 (Stands l j' x'))) (stands l j' x') $ settle 𝓛 Z (given (get_elem? l j' ≡ some x') (‵ (D l) ⊛ ‵ (G j' x'))) $ learn ! (λ there. split ! $
        -- D, G', G, P, calm
        move ! (4 ∷ []) $ fpick ! (λ u. fsplit ! $ fpick ! (λ h. drop ! $ let r : Round = round_of R u.0 u.1.1 in
        let same : x.round ≡ x'.round = (fills_less r u.1.0 l j x here one h.1).0 ∙ sym (fills_less r u.1.0 l j' x' there other h.1).0 in
        -- shared, D, G', G, P
        move ! (1 ∷ 4 ∷ 0 ∷ []) $ use3 𝓛 (raw Lends) (calm_account l u h.0 h.1) $ suffices ! _ (upd_i 𝓤 Z) $ frame ! $ check ! same $ move ! (1 ∷ 0 ∷ []) $ done !))))
    alike_in one other l false = qed 𝓛 (‵ (account_at R z cv k t δ μ l false) ∷ ‵ (G j x) ∷ ‵ (G j' x') ∷ []) ∵ fsplit3 ! $ move ! (0 ∷ 3 ∷ []) $
        use2 𝓛 (raw (upd 𝓤 (Stands l j x))) (stands l j x) $ settle 𝓛 (Lends ∗ Alike) (given (get_elem? l j ≡ some x) (‵ (D l) ⊛ ‵ (G j x))) $ learn ! (λ here. split ! $
        -- D, G, P, busy, G'
        move ! (3 ∷ []) $ fsplit ! $ fpick ! (λ h. let n = word.number-at cell_reads l j x here in let w : weight (cell_reads x) ≡ 1 = ap weight one in let z₀ = h.1 in absurd (omega arith)))

    pub alike : cell_reads x ≡ true → cell_reads x' ≡ true → Lends ∗ Pair ⊢ upd 𝓤 (Lends ∗ Alike)
    alike one other = qed 𝓛 (‵ (account R z cv k t δ μ) ∷ ‵ (G j x) ∷ ‵ (G j' x') ∷ []) ∵ fpick ! (λ l. fpick ! (λ b. by ! (alike_in one other l b)))

  -- a pledge to read and the memo are of one value
  module _ (j : ℕ) (x : C) (m : R.Denot) where
    abbrev pub Recall : Pr
    Recall = ⟦ G j x ⟧ ∗ ⟦ Memo m ⟧

    abbrev pub Recalled : Pr
    Recalled = guard 𝓤 (x.round.1 ≡ R.coded.code m) Recall

    recalled_in : cell_reads x ≡ true → (l : List C) (b : Bool) → ⟦ account_at R z cv k t δ μ l b ⟧ ∗ Recall ⊢ upd 𝓤 (Lends ∗ Recalled)
    recalled_in one l true = let Z : Pr = Lends ∗ Recalled in qed 𝓛 (‵ (account_at R z cv k t δ μ l true) ∷ ‵ (G j x) ∷ ‵ (Memo m) ∷ []) ∵ fsplit3 ! $ move ! (0 ∷ 3 ∷ []) $
        -- D, G, P, calm, memo
        use2 𝓛 (raw (upd 𝓤 (Stands l j x))) (stands l j x) $ settle 𝓛 Z (given (get_elem? l j ≡ some x) (‵ (D l) ⊛ ‵ (G j x))) $ learn ! (λ here. split ! $
        move ! (3 ∷ []) $ fpick ! (λ u. fsplit ! $ fpick ! (λ h. drop ! $ fsplit ! $ move ! (5 ∷ 1 ∷ []) $ let c : Gv = R.coded.code u.1.1 in
        use2 𝓛 (given (R.coded.code m ≡ c) (‵ (Memo m) ⊛ ‵ (fauth μ c))) (𝓛.names.name_agree μ (R.coded.code m) c) $ learn ! (λ e. split ! $
        let same : x.round.1 ≡ R.coded.code m = ap (λ (r : Round). r.1) (fills_less (round_of R u.0 u.1.1) u.1.0 l j x here one h.1).0 ∙ sym e in
        -- memo, known, stock, D, G, P
        move ! (2 ∷ 1 ∷ []) $ fjoin ! $ move ! (2 ∷ 4 ∷ 0 ∷ []) $ use3 𝓛 (raw Lends) (calm_account l u h.0 h.1) $ suffices ! _ (upd_i 𝓤 Z) $ frame ! $ check ! same $ move ! (1 ∷ 0 ∷ []) $ done !))))
    recalled_in one l false = qed 𝓛 (‵ (account_at R z cv k t δ μ l false) ∷ ‵ (G j x) ∷ ‵ (Memo m) ∷ []) ∵ fsplit3 ! $ move ! (0 ∷ 3 ∷ []) $
        use2 𝓛 (raw (upd 𝓤 (Stands l j x))) (stands l j x) $ settle 𝓛 (Lends ∗ Recalled) (given (get_elem? l j ≡ some x) (‵ (D l) ⊛ ‵ (G j x))) $ learn ! (λ here. split ! $
        move ! (3 ∷ []) $ fsplit ! $ fpick ! (λ h. let n = word.number-at cell_reads l j x here in let w : weight (cell_reads x) ≡ 1 = ap weight one in let z₀ = h.1 in absurd (omega arith)))

    pub recalled : cell_reads x ≡ true → Lends ∗ Recall ⊢ upd 𝓤 (Lends ∗ Recalled)
    recalled one = qed 𝓛 (‵ (account R z cv k t δ μ) ∷ ‵ (G j x) ∷ ‵ (Memo m) ∷ []) ∵ fpick ! (λ l. fpick ! (λ b. by ! (recalled_in one l b)))

  -- what a writer gets, who has the memo of this value: an account of its pledge, and all that the vault has of that value
  abbrev Taken : ℕ → V → R.Denot → ℕ × ℕ → Pr
  Taken id v m u = ⟦ G u.0 (writing id v) ⟧ ∗ ⟦ Stock u.1 full_share m ⟧ ∗ ⟦ Memo m ⟧

  abbrev Writer : ℕ → V → R.Denot → Pr
  Writer id v m = ex 𝓤 (Taken id v m)

  -- what it has before
  abbrev Asks : ℕ → V → R.Denot → Fml
  Asks id v m = fsep (S id v) (Memo m)

  -- the writer gets all, where nobody reads or writes
  calm_write : (l : List C) (id : ℕ) (v : V) (m : R.Denot) → k.writes v ≡ true → number cell_reads l ≡ 0 → ⟦ D l ⟧ ∗ ⟦ P l ⟧ ∗ ⟦ calm R z cv k t δ μ l ⟧ ∗ ⟦ Asks id v m ⟧ ⊢ upd 𝓤 (Lends ∗ Writer id v m)
  calm_write l id v m right zero_readers = let Z : Pr = Lends ∗ Writer id v m in let x : C = writing id v in let l' : List C = l ++ x ∷ [] in
      qed 𝓛 (‵ (D l) ∷ ‵ (P l) ∷ ‵ (calm R z cv k t δ μ l) ∷ ‵ (Asks id v m) ∷ []) ∵ move ! (2 ∷ []) $ fpick ! (λ u. fsplit ! $ fpick ! (λ h. drop ! $
      rewrite ! 0 (λ (e : Share). ‵ (Shared u.0 e u.1.1)) (fills_all (round_of R u.0 u.1.1) u.1.0 l zero_readers h.1) refl $
      -- shared, D, P, what it has
      fsplit ! $ move ! (4 ∷ []) $ fsplit ! $ move ! (1 ∷ 3 ∷ []) $
      use2 𝓛 (given (R.coded.code m ≡ R.coded.code u.1.1) (‵ (Memo m) ⊛ ‵ (fauth μ (R.coded.code u.1.1)))) (𝓛.names.name_agree μ (R.coded.code m) (R.coded.code u.1.1)) $ learn ! (λ e. split ! $
      -- memo, known, S, stock, D, P
      move ! (3 ∷ []) $ rewrite ! 0 (λ (y : R.Denot). ‵ (Stock u.0 full_share y)) (sym (R.coded.inj m u.1.1 e)) refl $ move ! (2 ∷ []) $ fpack ! Gv (fauth μ) (R.coded.code u.1.1) $
      -- known, stock, memo, S, D, P
      move ! (4 ∷ []) $ use1 𝓛 (raw (upd 𝓤 (ex 𝓤 (Joined 𝓛 cc δ 0 l x)))) (joins 𝓛 cc δ l 0 x) $ settle 𝓛 Z (some (λ (j : ℕ). ‵ (D l') ⊛ ‵ (G j x))) $ pick ! (λ j. split ! $
      -- D', G, known, stock, memo, S, P
      move ! (5 ∷ []) $ nothing ! $ fpack ! (k.writes v ≡ true) (λ _. ftrue) right $ fjoin ! $ move ! (6 ∷ 0 ∷ []) $ use2 𝓛 (‵ (P l')) (pledges_add l x) $
      -- P', D', G, known, stock, memo
      suffices ! _ (upd_i 𝓤 Z) $ move ! (1 ∷ 0 ∷ 3 ∷ []) $
      use3 𝓛 (raw Lends) (busy_account l' (let n = number-more cell_writes l x in let z₀ = h.0 in omega arith) (let n = number-more cell_reads l x in omega arith)) $
      frame ! $ show ! (Taken id v m) (j, u.0) $ done !))))

  -- the writer gives all back, in a new round, and has its seat again, and the memo of the value that it gives back
  module _ (id : ℕ) (v : V) (a : ℕ) (m y : R.Denot) (j : ℕ) where
    abbrev w₀ : C
    w₀ = writing id v

    abbrev Y₀ : Pr
    Y₀ = Lends ∗ (⟦ S id v ⟧ ∗ ⟦ Memo y ⟧)

    given_back : (l : List C) (b : Bool) → ⟦ account_at R z cv k t δ μ l b ⟧ ∗ ⟦ G j w₀ ⟧ ∗ ⟦ Stock a full_share y ⟧ ∗ ⟦ Memo m ⟧ ⊢ upd 𝓤 Y₀
    given_back l false = qed 𝓛 (‵ (account_at R z cv k t δ μ l false) ∷ ‵ (G j w₀) ∷ ‵ (Stock a full_share y) ∷ ‵ (Memo m) ∷ []) ∵ fsplit3 ! $ move ! (0 ∷ 3 ∷ []) $
        -- D, G, P, busy, stock, memo
        use2 𝓛 (given (get_elem? l j ≡ some w₀) (raw (base.Logic.all 𝓤 (Moved 𝓛 cc δ 0 l j j)))) (moves 𝓛 cc δ l 0 j j w₀ (omega arith)) $ learn ! (λ at.
        use1 𝓛 (raw (Moved 𝓛 cc δ 0 l j j (emptied w₀))) (base.Logic.all_e 𝓤 (Moved 𝓛 cc δ 0 l j j) (emptied w₀)) $ settle 𝓛 Y₀ (‵ (D (set l j (emptied w₀))) ⊛ ‵ (G j (emptied w₀))) $ split ! $
        -- D', G', P, busy, stock, memo
        move ! (2 ∷ []) $ use1 𝓛 (‵ (Of w₀ 2) ⊛ ‵ (P (set l j (emptied w₀)))) (pledges_take l j w₀ at) $ split ! $ fsplit ! $ drop ! $
        -- S, P', D', G', busy, stock, memo
        move ! (4 ∷ []) $ fsplit ! $ fpick ! (λ h. drop ! $ fpick ! (λ u. move ! (6 ∷ 0 ∷ []) $
        use2 𝓛 (raw (upd 𝓤 (⟦ Memo y ⟧ ∗ A.auth μ (R.coded.code y)))) (𝓛.names.name_set_upd μ (R.coded.code m) u (R.coded.code y)) $ settle 𝓛 Y₀ (‵ (Memo y) ⊛ ‵ (fauth μ (R.coded.code y))) $ split ! $
        -- memo, known, S, P', D', G', stock
        move ! (6 ∷ 1 ∷ []) $ fjoin ! $ move ! (4 ∷ 3 ∷ 0 ∷ []) $
        use3 𝓛 (raw Lends) (calm_account (set l j (emptied w₀)) (a, (full_share, y)) (let n = word.number-set cell_writes l j w₀ (emptied w₀) at in let z₁ = h.0 in omega arith)
        (whole_fills (round_of R a y) (set l j (emptied w₀)) (let n = word.number-set cell_reads l j w₀ (emptied w₀) at in let z₁ = h.1 in omega arith))) $
        suffices ! _ (upd_i 𝓤 Y₀) $ keep ! (0 ∷ 2 ∷ 1 ∷ []) $ done !)))
    given_back l true = qed 𝓛 (‵ (account_at R z cv k t δ μ l true) ∷ ‵ (G j w₀) ∷ ‵ (Stock a full_share y) ∷ ‵ (Memo m) ∷ []) ∵ fsplit3 ! $ move ! (0 ∷ 3 ∷ []) $
        use2 𝓛 (given (get_elem? l j ≡ some w₀) (raw (base.Logic.all 𝓤 (Moved 𝓛 cc δ 0 l j j)))) (moves 𝓛 cc δ l 0 j j w₀ (omega arith)) $ learn ! (λ at. drop ! $ move ! (1 ∷ []) $
        fpick ! (λ u. fsplit ! $ fpick ! (λ h. let n = word.number-at cell_writes l j w₀ at in let z₁ = h.0 in absurd (omega arith))))

    pub write_back : Lends ∗ ⟦ G j w₀ ⟧ ∗ ⟦ Stock a full_share y ⟧ ∗ ⟦ Memo m ⟧ ⊢ upd 𝓤 Y₀
    write_back = qed 𝓛 (‵ (account R z cv k t δ μ) ∷ ‵ (G j w₀) ∷ ‵ (Stock a full_share y) ∷ ‵ (Memo m) ∷ []) ∵ fpick ! (λ l. fpick ! (λ b. by ! (given_back l b)))

  -- ---- with the table's views at hand: its rule says that no right is lent beside one that it excludes
  module _ {St : Type 0} (holds : State St V → Type 0) (only_one : Excludes k holds) (s : State St V) (good : holds s) (id : ℕ) (v : V) where
    abbrev Vs : Fml
    Vs = Views s.views

    abbrev Z_read : Pr
    Z_read = ⟦ Vs ⟧ ∗ (Lends ∗ Reader id v)

    read_in : k.reads v ≡ true → (l : List C) (b : Bool) → ⟦ account_at R z cv k t δ μ l b ⟧ ∗ ⟦ S id v ⟧ ∗ ⟦ Vs ⟧ ⊢ upd 𝓤 Z_read
    read_in right l true = qed 𝓛 (‵ (account_at R z cv k t δ μ l true) ∷ ‵ (S id v) ∷ ‵ Vs ∷ []) ∵ fsplit3 ! $ move ! (2 ∷ 3 ∷ []) $ join ! $ move ! (2 ∷ 0 ∷ []) $ join ! $ move ! (1 ∷ 0 ∷ []) $ join ! $
        use1 𝓛 (raw (upd 𝓤 (Lends ∗ Reader id v))) (calm_read l id v right) $ settle 𝓛 Z_read (raw Lends ⊛ raw (Reader id v)) $ suffices ! _ (upd_i 𝓤 Z_read) $ move ! (1 ∷ 0 ∷ []) $ done !
    read_in right l false = qed 𝓛 (‵ (account_at R z cv k t δ μ l false) ∷ ‵ (S id v) ∷ ‵ Vs ∷ []) ∵ fsplit3 ! $ drop ! $ move ! (1 ∷ []) $ fsplit ! $ fpick ! (λ h. drop ! $ drop ! $
        use1 𝓛 (some (λ (u : ℕ × V). given (k.writes u.1 ≡ true) (‵ (S u.0 u.1)))) (some_writer l (let z₁ = h.0 in omega arith)) $ pick ! (λ u. learn ! (λ wr. move ! (2 ∷ 0 ∷ 1 ∷ []) $
        by ! (clash holds only_one s good u.0 id u.1 v wr (inl right) Z_read))))

    pub lend_read : k.reads v ≡ true → Lends ∗ ⟦ S id v ⟧ ∗ ⟦ Vs ⟧ ⊢ upd 𝓤 Z_read
    lend_read right = qed 𝓛 (‵ (account R z cv k t δ μ) ∷ ‵ (S id v) ∷ ‵ Vs ∷ []) ∵ fpick ! (λ l. fpick ! (λ b. by ! (read_in right l b)))

    module _ (m : R.Denot) where
      abbrev Z_write : Pr
      Z_write = ⟦ Vs ⟧ ∗ (Lends ∗ Writer id v m)

      write_in : k.writes v ≡ true → (l : List C) (b : Bool) → ⟦ account_at R z cv k t δ μ l b ⟧ ∗ ⟦ Asks id v m ⟧ ∗ ⟦ Vs ⟧ ⊢ upd 𝓤 Z_write
      write_in right l true = dite (ℕ_discrete (number cell_reads l) 0)
          (λ zero_readers. qed 𝓛 (‵ (account_at R z cv k t δ μ l true) ∷ ‵ (Asks id v m) ∷ ‵ Vs ∷ []) ∵ fsplit3 ! $ move ! (2 ∷ 3 ∷ []) $ join ! $ move ! (2 ∷ 0 ∷ []) $ join ! $ move ! (1 ∷ 0 ∷ []) $ join ! $
          use1 𝓛 (raw (upd 𝓤 (Lends ∗ Writer id v m))) (calm_write l id v m right zero_readers) $ settle 𝓛 Z_write (raw Lends ⊛ raw (Writer id v m)) $ suffices ! _ (upd_i 𝓤 Z_write) $ move ! (1 ∷ 0 ∷ []) $ done !)
          (λ left. qed 𝓛 (‵ (account_at R z cv k t δ μ l true) ∷ ‵ (Asks id v m) ∷ ‵ Vs ∷ []) ∵ fsplit3 ! $ keep ! (1 ∷ 3 ∷ 4 ∷ []) $
          use1 𝓛 (some (λ (u : ℕ × V). given (k.reads u.1 ≡ true) (‵ (S u.0 u.1)))) (some_reader l (omega arith)) $ pick ! (λ u. learn ! (λ rd. move ! (1 ∷ []) $ fsplit ! $ keep ! (3 ∷ 0 ∷ 2 ∷ []) $
          by ! (clash holds only_one s good id u.0 v u.1 right (inl rd) Z_write))))
      write_in right l false = qed 𝓛 (‵ (account_at R z cv k t δ μ l false) ∷ ‵ (Asks id v m) ∷ ‵ Vs ∷ []) ∵ fsplit3 ! $ drop ! $ move ! (1 ∷ []) $ fsplit ! $ fpick ! (λ h. drop ! $ drop ! $
          use1 𝓛 (some (λ (u : ℕ × V). given (k.writes u.1 ≡ true) (‵ (S u.0 u.1)))) (some_writer l (let z₁ = h.0 in omega arith)) $ pick ! (λ u. learn ! (λ wr. move ! (1 ∷ []) $ fsplit ! $ keep ! (3 ∷ 0 ∷ 2 ∷ []) $
          by ! (clash holds only_one s good id u.0 v u.1 right (inr wr) Z_write))))

      pub lend_write : k.writes v ≡ true → Lends ∗ ⟦ Asks id v m ⟧ ∗ ⟦ Vs ⟧ ⊢ upd 𝓤 Z_write
      lend_write right = qed 𝓛 (‵ (account R z cv k t δ μ) ∷ ‵ (Asks id v m) ∷ ‵ Vs ∷ []) ∵ fpick ! (λ l. fpick ! (λ b. by ! (write_in right l b)))

  -- ---- the two invariants opened at once, by a token of the table's age
  two : (i j : ℕ) (X Y : Fml) → ¬ (i ≡ j) → Apart ((i, X) ∷ (j, Y) ∷ [])
  two i j X Y ne = ((λ m. Or.elim ⊥_prop ((mem-cons {a = i} {b = j} {l = []}).0 m) ne (λ x. not-mem-nil x)), ((λ m. not-mem-nil m), tt))

  module _ (St : RattleType) (holds : State St.Denot V → Type 0) (only_one : Excludes k holds) (w p : Ptr) (n m : ℕ) (ne : ¬ (n ≡ m)) (q : Share) (id : ℕ) (v : V) where
    abbrev In : Fml
    In = inner St cv.code holds w p t

    abbrev Vt : Fml
    Vt = vault R z cv k t δ μ ρ

    abbrev τ : Lft
    τ = Rattle.atomic_table.specs.Seated.age t

    abbrev Both : List (ℕ × Fml)
    Both = (n, fbor τ In) ∷ (m, Vt) ∷ []

    -- a step on the vault that needs the table's views runs with both open
    both_open : (K Q : Pr) → ((s : State St.Denot V) → holds s → Lends ∗ K ∗ ⟦ Views s.views ⟧ ⊢ upd 𝓤 (⟦ Views s.views ⟧ ∗ (Lends ∗ Q)))
        → A.named n (fbor τ In) ∗ A.named m Vt ∗ A.lft τ q ∗ K ⊢ H.⇛ (Q ∗ A.lft τ q)
    both_open K Q law = let W : Pr = ⟦ In ⟧ ∗ ⟦ bodies ((m, Vt) ∷ []) ⟧ ∗ Q in
        qed 𝓛 (‵ (fnamed n (fbor τ In)) ∷ ‵ (fnamed m Vt) ∷ ‵ (flft τ q) ∷ raw K ∷ []) ∵ suffices ! _ (𝓛.invs.invs_bor_acc n τ q In ((m, Vt) ∷ []) Q (two n m (fbor τ In) Vt ne)) $
        use0 𝓛 (‵ ftrue) (id⊢ 𝓤 (emp 𝓤)) $ move ! (1 ∷ 2 ∷ 0 ∷ []) $ fjoin3 ! $ frame ! $ frame ! $ assume ! (‵ In ⊛ ‵ (bodies ((m, Vt) ∷ []))) $ split ! $
        -- In, bodies, K
        fpick ! (λ s. fsplit3 ! $ move ! (1 ∷ []) $ fsplit ! $ move ! (3 ∷ []) $ fpick ! (λ h. drop ! $
        -- shelf, views, row, bodies, K
        move ! (3 ∷ []) $ fsplit ! $ fsplit ! $ move ! (0 ∷ 6 ∷ 4 ∷ []) $
        use3 𝓛 (raw (upd 𝓤 (⟦ Views s.views ⟧ ∗ (Lends ∗ Q)))) (law s h.0) $ settle 𝓛 W (‵ (Views s.views) ⊛ ‵ (account R z cv k t δ μ) ⊛ raw Q) $ split3 ! $
        -- views, account, Q, memo, nothing, shelf, row
        move ! (1 ∷ 3 ∷ []) $ fjoin ! $ move ! (1 ∷ 0 ∷ []) $
        -- views, vault, Q, nothing, shelf, row
        suffices ! _ (upd_i 𝓤 W) $ move ! (4 ∷ 0 ∷ []) $ fjoin ! $ nothing ! $ fpack ! (holds s × (length s.words ≡ t.words) × (length s.homes ≡ t.slots)) (λ _. ftrue) h $ move ! (1 ∷ 0 ∷ []) $ fjoin ! $ move ! (4 ∷ 0 ∷ []) $ fjoin ! $
        fpack ! (State St.Denot V) (standing St cv.code holds w p t) s $ move ! (1 ∷ 3 ∷ []) $ fjoin ! $ move ! (1 ∷ 0 ∷ 2 ∷ []) $ done !))

    pub reads : k.reads v ≡ true → A.named n (fbor τ In) ∗ A.named m Vt ∗ A.lft τ q ∗ ⟦ S id v ⟧ ⊢ H.⇛ (Reader id v ∗ A.lft τ q)
    reads right = both_open ⟦ S id v ⟧ (Reader id v) (λ s good. lend_read holds only_one s good id v right)

    pub writes : (x : R.Denot) → k.writes v ≡ true → A.named n (fbor τ In) ∗ A.named m Vt ∗ A.lft τ q ∗ ⟦ Asks id v x ⟧ ⊢ H.⇛ (Writer id v x ∗ A.lft τ q)
    writes x right = both_open ⟦ Asks id v x ⟧ (Writer id v x) (λ s good. lend_write holds only_one s good id v x right)

  -- what needs no table is a step on the vault alone
  module _ (m : ℕ) where
    abbrev Vm : Fml
    Vm = vault R z cv k t δ μ ρ

    pub vault_open : (K Q : Pr) → ⟦ Vm ⟧ ∗ K ⊢ upd 𝓤 (⟦ Vm ⟧ ∗ Q) → A.named m Vm ∗ K ⊢ H.⇛ Q
    vault_open K Q law = let W : Pr = ⟦ Vm ⟧ ∗ Q in qed 𝓛 (‵ (fnamed m Vm) ∷ raw K ∷ []) ∵ suffices ! _ (𝓛.invs.inv_acc Vm Q) $ use1 𝓛 (‵ (finv Vm)) (𝓛.invs.named_inv m Vm) $ frame ! $ assume ! (‵ Vm) $ by ! law

    -- and one on what is lent leaves the memo where it is
    lent_open : (K Q : Pr) → Lends ∗ K ⊢ upd 𝓤 (Lends ∗ Q) → A.named m Vm ∗ K ⊢ H.⇛ Q
    lent_open K Q law = let W : Pr = ⟦ Vm ⟧ ∗ Q in vault_open K Q (qed 𝓛 (‵ Vm ∷ raw K ∷ []) ∵ fsplit ! $ move ! (0 ∷ 2 ∷ []) $
        use2 𝓛 (raw (upd 𝓤 (Lends ∗ Q))) law $ settle 𝓛 W (‵ (account R z cv k t δ μ) ⊛ raw Q) $ split ! $ suffices ! _ (upd_i 𝓤 W) $ move ! (0 ∷ 2 ∷ []) $ fjoin ! $ done !)

    pub reads_no_more : (id : ℕ) (v : V) (e : Share) (r : Round) (j : ℕ) → A.named m Vm ∗ (⟦ G j (reading id v e r) ⟧ ∗ ⟦ Tok r.0 e ⟧) ⊢ H.⇛ ⟦ S id v ⟧
    reads_no_more id v e r j = lent_open (⟦ G j (reading id v e r) ⟧ ∗ ⟦ Tok r.0 e ⟧) ⟦ S id v ⟧ (read_back id v e r j)

    pub alike_now : (j j' : ℕ) (x x' : C) → cell_reads x ≡ true → cell_reads x' ≡ true → A.named m Vm ∗ Pair j j' x x' ⊢ H.⇛ (Alike j j' x x')
    alike_now j j' x x' one other = lent_open (Pair j j' x x') (Alike j j' x x') (alike j j' x x' one other)

    pub recalled_now : (j : ℕ) (x : C) (y : R.Denot) → cell_reads x ≡ true → A.named m Vm ∗ Recall j x y ⊢ H.⇛ (Recalled j x y)
    recalled_now j x y one = lent_open (Recall j x y) (Recalled j x y) (recalled j x y one)

    pub writes_no_more : (id : ℕ) (v : V) (a : ℕ) (y x : R.Denot) (j : ℕ) → A.named m Vm ∗ (⟦ G j (writing id v) ⟧ ∗ ⟦ Stock a full_share x ⟧ ∗ ⟦ Memo y ⟧) ⊢ H.⇛ (⟦ S id v ⟧ ∗ ⟦ Memo x ⟧)
    writes_no_more id v a y x j = lent_open (⟦ G j (writing id v) ⟧ ∗ ⟦ Stock a full_share x ⟧ ∗ ⟦ Memo y ⟧) (⟦ S id v ⟧ ∗ ⟦ Memo x ⟧) (write_back id v a y x j)

-- A room's age begins and ends. Assumes `Logic`.
use Rattle.std.proofs.Common.{ℕ, ◌*◌, ◌^◌, ◌<◌, [], ◌∷◌, ◌++◌, refl, sym}
use seplogic.Ra.Ura.{Ura}
use base.Share
use base.Fraction.{full_share}
use base.Logic.{SProp, ent, sep, wand, ex, guard, emp, id⊢, apply∗, upd_i}
use base.Fml.{Key, Lft, Share, Incl, Incl-refl, Incl-trans, Fml, ftrue, fsep, fseps, fwand, fupd, fdead, fauth, fobs, fbor, flent, flft, fshr_bor}
use contract.BorrowLft.{meet_⊑_left, meet_⊑_right, ⊑_meet}
use ghost.Rules.{Toks, span}
use types.Logic.{Logic, sem, lfts}
use types.Kit.{‵, raw, ◌⊛◌, some, later, ◌$◌, ◌∵◌, !, qed, by, move, keep, drop, use0, use1, use2, use3, split, split3, fsplit, fsplit3, fjoin, fjoin3, fpick, fpack, pick, show, check, assume, suffices, await, rewrite, updating, now, done}
use types.Tokens.{lft_new, lft_end, lent_back, bor_new, bor_open, obor_close, obor_alter, bor_fracture, name_new}
use Rattle.core.proofs.cell.Borrows.{by_one}
use types.SemTy.{cells}
use types.Na.{before-Incl}
use denote.RattleType.{RattleType, RowLaws}
use denote.Memory.{part_at, mem}
use denote.RawPtr.{Ptr, block_of, count_of, at_block, InBlock}
use denote.Moves.{moves}
use denote.Shares.{Shares, settles}
use denote.Sharing.{ShrLaws, one, said}
use denote.SharingLaws.{beside_shr_laws, one_shr_laws, said_shr_laws, contraction, shortens}
use denote.Steps.{nothing}
use denote.Struct.Lending.{Lends, Lends-both}
use Rattle.atomic_table.specs.Seated.{strip}
use Rattle.lock_place.specs.Held.{RoomId, age, Placed, common, held, room_owns, room_shares, hold_owns, seen_at, form, either_form, hold_shares}
use mathlib.Core.Bool.{Bool, true, false}
use base.Before.{before}
use types.Na.{na_inv, na_inv_new, before_shorten}
use denote.Moves.{moves_before}
use denote.Hidden.{kept, kept_shr_laws}
use denote.Sharing.{beside, ends as until}
use denote.SharingLaws.{some_shr_laws, ends_shr_laws}

abbrev pub lasting : RoomId → Share → Fml
lasting z q = flft (age z) q

pub room_laws : (R : RattleType) (p : Ptr) (z : RoomId) → ShrLaws (room_shares R p z)
room_laws R p z = beside_shr_laws (one (lasting z)) (said (common R p z)) (one_shr_laws (lasting z)) (said_shr_laws (common R p z) (λ _. tt))

pub hold_laws : (R : RattleType) (z : RoomId) (x : R.Denot) → ShrLaws (hold_shares R z x)
hold_laws R z x = let k : Key = (z.block, z.offset) in let I = either_form R z x in
    some_shr_laws Lft (λ κ₀. beside (until κ₀) (kept k (I κ₀))) (λ κ₀. beside_shr_laws (until κ₀) (kept k (I κ₀)) (ends_shr_laws κ₀) (kept_shr_laws k (I κ₀)))

module _ {M : Type 1} {𝓤 : Ura M} (𝓛 : Logic 𝓤) where
  open 𝓛 use {H, A}

  abbrev Pr : Type 2
  Pr = SProp 𝓤

  abbrev ◌⊢◌ : Pr → Pr → Type 1
  P ⊢ Q = ent 𝓤 P Q

  abbrev ◌∗◌ : Pr → Pr → Pr
  P ∗ Q = sep 𝓤 P Q

  abbrev ◌-∗◌ : Pr → Pr → Pr
  P -∗ Q = wand 𝓤 P Q

  abbrev ⟦◌⟧ : Fml → Pr
  ⟦ P ⟧ = sem 𝓛 P

  infix 26 ◌⊢◌
  infixr 35 ◌∗◌
  infixr 30 ◌-∗◌
  module _ (R : RattleType) (p : Ptr) where
    pub strip_lies : (x : R.Denot) → ⟦ strip R p (x ∷ []) ⟧ ⊢ guard 𝓤 (InBlock p) ⟦ strip R p (x ∷ []) ⟧
    strip_lies x = qed 𝓛 (‵ (strip R p (x ∷ [])) ∷ []) ∵ fsplit ! $ fpick ! (λ f. check ! f.0 $ fpack ! (InBlock p × (1 * (mem R).size < 2 ^ 63)) (λ _. ftrue) f $ done !)

    abbrev pub Dealt : R.Denot → RoomId → Pr
    Dealt x z = ⟦ room_owns R p z ⟧ ∗ ⟦ hold_owns R z x ⟧

    pub deals : (x : R.Denot) → ⟦ strip R p (x ∷ []) ⟧ ⊢ H.⇛ (ex 𝓤 (Dealt x))
    deals x = let b : ℕ = block_of p in let o : ℕ = count_of p in
        qed 𝓛 (‵ (strip R p (x ∷ [])) ∷ []) ∵ updating ! $ fsplit ! $ fpick ! (λ fp. drop ! $ fsplit ! $ lft_new ! tt (λ a. move ! (1 ∷ []) $
        name_new ! tt (R.coded.code x) (λ d. let z : RoomId = record { block = b; offset = o; atom = a; name = d } in
        move ! (2 ∷ 1 ∷ []) $ fjoin ! $ fpack ! R.Denot (λ y. fsep (part_at R full_share y b o) (fauth d (R.coded.code y))) x $ bor_new ! tt (a ∷ []) $
        move ! (2 ∷ 0 ∷ []) $ fjoin ! $ move ! (1 ∷ []) $ nothing ! $ fpack ! (Placed R p z) (λ _. ftrue) (at_block p fp.0, fp.1) $ fjoin ! $ move ! (2 ∷ 0 ∷ []) $ fjoin ! $
        now ! $ show ! (Dealt x) z $ keep ! (0 ∷ 1 ∷ []) $ done !)))

    module _ (z : RoomId) where
      pub room_lies : ⟦ room_owns R p z ⟧ ⊢ guard 𝓤 (InBlock p) ⟦ room_owns R p z ⟧
      room_lies = qed 𝓛 (‵ (room_owns R p z) ∷ []) ∵ fsplit3 ! $ move ! (1 ∷ []) $ fpick ! (λ at. check ! (mathlib.Core.Path.subst InBlock (sym at.0) tt) $
          fpack ! (Placed R p z) (λ _. ftrue) at $ move ! (1 ∷ 0 ∷ []) $ fjoin3 ! $ done !)

      abbrev pub Gathered : R.Denot → Pr
      Gathered x = ⟦ strip R p (x ∷ []) ⟧

      pub gathers : ⟦ room_owns R p z ⟧ ⊢ H.⇛ (ex 𝓤 Gathered)
      gathers = qed 𝓛 (‵ (room_owns R p z) ∷ []) ∵ updating ! $ fsplit3 ! $ lft_end ! tt $ move ! (1 ∷ []) $ fpick ! (λ at. drop ! $ lent_back ! tt $ fpick ! (λ x. fsplit ! $ keep ! (0 ∷ []) $
          nothing ! $ move ! (1 ∷ 0 ∷ []) $ fjoin ! $ rewrite ! 0 (λ (q : Ptr). ‵ (cells (mem R) (x ∷ []) (block_of q) (count_of q))) (sym at.0) refl $
          nothing ! $ fpack ! (InBlock p × (1 * (mem R).size < 2 ^ 63)) (λ _. ftrue) (mathlib.Core.Path.subst InBlock (sym at.0) tt, at.1) $ fjoin ! $ now ! $ show ! Gathered x $ done !))

      abbrev pub Renewed : RoomId × R.Denot → Pr
      Renewed w = ⟦ room_owns R p w.0 ⟧ ∗ ⟦ hold_owns R w.0 w.1 ⟧

      pub renews : ⟦ room_owns R p z ⟧ ⊢ H.⇛ (ex 𝓤 Renewed)
      renews = qed 𝓛 (‵ (room_owns R p z) ∷ []) ∵ updating ! $ use1 𝓛 (later (some (λ (x : R.Denot). ‵ (strip R p (x ∷ []))))) gathers $ await ! tt $ pick ! (λ x.
          use1 𝓛 (later (some (λ (w : RoomId). ‵ (room_owns R p w) ⊛ ‵ (hold_owns R w x)))) (deals x) $ await ! tt $ pick ! (λ w. now ! $ show ! Renewed (w, x) $ done !))

      abbrev C : Fml
      C = common R p z

      module _ (l : Lft) where
        token : Lends 𝓛 (lasting z full_share) (one (lasting z)) l
        token ν ts inc sp = qed 𝓛 (‵ (fbor ν (lasting z full_share)) ∷ raw (lfts 𝓛 ts) ∷ []) {P = H.⇛ (sep 𝓤 (sem 𝓛 (fshr_bor ν (lasting z))) (lfts 𝓛 ts))} (updating ! $ bor_fracture ! tt (lasting z) full_share $ now ! $ done !)

        knowledge : Lends 𝓛 (fsep C (flent (age z) (held R z))) (said C) l
        knowledge ν ts inc sp = let P : Fml = fsep C (flent (age z) (held R z)) in let Back = H.⇛ (sep 𝓤 (A.bor ν P) (lfts 𝓛 ts)) in
            qed 𝓛 (‵ (fbor ν P) ∷ raw (lfts 𝓛 ts) ∷ []) {P = H.⇛ (sep 𝓤 (sem 𝓛 C) (lfts 𝓛 ts))} (
            updating ! $ use2 𝓛 (later (‵ P ⊛ raw (wand 𝓤 (sem 𝓛 P) Back))) (𝓛.more.bor_acc_by ν ts P sp) $ await ! tt $ split ! $ fsplit ! $
            use1 𝓛 (‵ C ⊛ ‵ C) (contraction 𝓛 (said C) (said_shr_laws C (λ _. tt)) ν) $ split ! $ move ! (0 ∷ 2 ∷ []) $ fjoin ! $ move ! (0 ∷ 2 ∷ []) $
            use2 𝓛 (later (‵ (fbor ν P) ⊛ raw (lfts 𝓛 ts))) (apply∗ 𝓤 (sem 𝓛 P) Back) $ await ! tt $ split ! $ drop ! $ move ! (1 ∷ 0 ∷ []) $ now ! $ done !)

        pub lends_room : Lends 𝓛 (room_owns R p z) (room_shares R p z) l
        lends_room = Lends-both 𝓛 (lasting z full_share) (fsep C (flent (age z) (held R z))) (one (lasting z)) (said C) l token knowledge

  module _ (R : RattleType) (z : RoomId) (x : R.Denot) where
    abbrev V : Lft → Fml
    V = seen_at R z x

    abbrev Obs : Fml
    Obs = fobs z.name (R.coded.code x)

    abbrev P : Fml
    P = hold_owns R z x

    abbrev In : Fml
    In = held R z

    abbrev At : Fml
    At = part_at R full_share x z.block z.offset

    abbrev I : Lft → Fml
    I = either_form R z x

    pub lends_hold : (l : Lft) → Lends 𝓛 P (hold_shares R z x) l
    lends_hold l κ ts inc sp = let k : Key = (z.block, z.offset) in qed 𝓛 (‵ (fbor κ P) ∷ raw (lfts 𝓛 ts) ∷ []) {P = H.⇛ (sep 𝓤 (sem 𝓛 (hold_shares R z x κ)) (lfts 𝓛 ts))} (updating ! $ fpack ! Bool (form R z x κ) true $
        use1 𝓛 (later (‵ (na_inv k (I κ)))) (na_inv_new 𝓛 k (I κ)) $ await ! tt $ use0 𝓛 (‵ (before κ κ)) (before-Incl 𝓛 κ κ (Incl-refl κ)) $ fjoin ! $ fpack ! Lft (λ κ₀. fsep (before κ κ₀) (na_inv k (I κ₀))) κ $ now ! $ done !)

    remakes : (ν : Lft) → emp 𝓤 ⊢ ⟦ fwand (fsep (fdead ν) (fseps (Obs ∷ fbor (age z) In ∷ []))) (fupd P) ⟧
    unfolding fseps
    remakes ν = qed 𝓛 [] ∵ assume ! (‵ (fsep (fdead ν) (fsep Obs (fsep (fbor (age z) In) ftrue)))) $ suffices ! ⟦ P ⟧ (upd_i 𝓤 ⟦ P ⟧) $ fsplit ! $ drop ! $ fsplit3 ! $ fjoin ! $ keep ! (0 ∷ []) $ done !

    lends_part : (ν : Lft) → Incl ν (age z) → (q : Share) → A.bor ν P ∗ A.lft ν q ⊢ H.⇛ (A.bor ν At ∗ A.lft ν q)
    unfolding fseps
    lends_part ν inc q = let α : Lft = age z in qed 𝓛 (‵ (fbor ν P) ∷ ‵ (flft ν q) ∷ []) ∵ updating ! $ bor_open ! tt $ move ! (1 ∷ []) $ fsplit ! $
        use0 𝓛 (‵ (fwand (fsep (fdead ν) (fseps (Obs ∷ fbor α In ∷ []))) (fupd P))) (remakes ν) $ nothing ! $ move ! (2 ∷ 3 ∷ 0 ∷ []) $ fjoin3 ! $ move ! (2 ∷ 0 ∷ 1 ∷ []) $ obor_alter ! tt (Obs ∷ fbor α In ∷ []) $
        use1 𝓛 (‵ (fbor ν Obs) ⊛ ‵ (fbor ν (fbor α In)) ⊛ ‵ ftrue) (id⊢ 𝓤 _) $ split3 ! $ move ! (1 ∷ 3 ∷ []) $
        use2 𝓛 (later (‵ (fbor ν In) ⊛ ‵ (flft ν q))) (𝓛.more.bor_unnest α ν q In inc) $ await ! tt $ split ! $ move ! (1 ∷ []) $
        use1 𝓛 (‵ (flft ν (Share.left q)) ⊛ ‵ (flft ν (Share.right q))) (𝓛.lfts.lft_split ν q) $ split ! $ move ! (3 ∷ 0 ∷ []) $ bor_open ! tt $ move ! (1 ∷ 3 ∷ 2 ∷ []) $
        use3 𝓛 (later (‵ Obs ⊛ ‵ (fbor ν At) ⊛ ‵ (flft ν (Share.right q)))) (settles 𝓛 (mem R) ν ((ν, Share.right q) ∷ []) (Incl-refl ν) z.name x z.block z.offset) $ await ! tt $ split3 ! $
        move ! (3 ∷ 0 ∷ []) $ obor_close ! tt $ drop ! $ move ! (0 ∷ 2 ∷ []) $ use2 𝓛 (‵ (flft ν q)) (𝓛.lfts.lft_join ν q) $ now ! $ keep ! (1 ∷ 0 ∷ []) $ done !

    module _ (L : RowLaws R) (l : Lft) (shares : Shares 𝓛 R l) (κ₀ : Lft) where
      abbrev ν : Lft
      ν = κ₀ ++ age z

      fill : (ts : Toks) → Incl (span ts) ν → Incl (span ts) l → (y : Bool) → ⟦ form R z x κ₀ y ⟧ ∗ lfts 𝓛 ts ⊢ H.⇛ (⟦ V ν ⟧ ∗ lfts 𝓛 ts)
      fill ts sp inc true = qed 𝓛 (‵ (fbor κ₀ P) ∷ raw (lfts 𝓛 ts) ∷ []) ∵ updating ! $ use1 𝓛 (‵ (fbor ν P)) (𝓛.bors.bor_shorten κ₀ ν P (meet_⊑_left κ₀ (age z))) $
          use2 𝓛 (later (‵ (fbor ν At) ⊛ raw (lfts 𝓛 ts))) (by_one 𝓛 ν ts sp (A.bor ν P) (A.bor ν At) (lends_part ν (meet_⊑_right κ₀ (age z)))) $ await ! tt $
          use1 𝓛 (later (‵ (V ν) ⊛ raw (lfts 𝓛 ts))) (shares x ν ts z.block z.offset inc sp) $ await ! tt $ now ! $ done !
      fill ts sp inc false = 𝓛.laws.⇛_intro _

      -- the value is shared, if it was not yet
      pub fills : (ts : Toks) → Incl (span ts) ν → Incl (span ts) l → ⟦ I κ₀ ⟧ ∗ lfts 𝓛 ts ⊢ H.⇛ (⟦ V ν ⟧ ∗ ⟦ I κ₀ ⟧ ∗ lfts 𝓛 ts)
      fills ts sp inc = qed 𝓛 (‵ (I κ₀) ∷ raw (lfts 𝓛 ts) ∷ []) ∵ updating ! $ fpick ! (λ y. use2 𝓛 (later (‵ (V ν) ⊛ raw (lfts 𝓛 ts))) (fill ts sp inc y) $ await ! tt $ split ! $
          use1 𝓛 (‵ (V ν) ⊛ ‵ (V ν)) (contraction 𝓛 V (L x z.block z.offset) ν) $ split ! $ fpack ! Bool (form R z x κ₀) false $ now ! $ move ! (1 ∷ 0 ∷ []) $ done !)

      pub reaches : (κ : Lft) → ⟦ before κ κ₀ ⟧ ∗ A.shr_bor κ (lasting z) ∗ ⟦ V ν ⟧ ⊢ ⟦ V κ ⟧
      reaches κ = let α : Lft = age z in let μ : Lft = α ++ κ in let K = L x z.block z.offset in qed 𝓛 (‵ (before κ κ₀) ∷ ‵ (fshr_bor κ (lasting z)) ∷ ‵ (V ν) ∷ []) ∵ move ! (2 ∷ []) $
          use1 𝓛 (‵ (V (μ ++ κ₀))) (shortens 𝓛 V K ν (μ ++ κ₀) (⊑_meet (μ ++ κ₀) κ₀ α (meet_⊑_right μ κ₀) (Incl-trans (meet_⊑_left μ κ₀) (meet_⊑_left α κ)))) $ move ! (1 ∷ 0 ∷ []) $
          use1 𝓛 (‵ (before μ κ₀)) (before_shorten 𝓛 κ μ κ₀ (meet_⊑_right α κ)) $ use2 𝓛 (‵ (V μ)) (moves_before 𝓛 V K μ κ₀) $ move ! (1 ∷ 0 ∷ []) $ by ! (moves 𝓛 V K κ α)

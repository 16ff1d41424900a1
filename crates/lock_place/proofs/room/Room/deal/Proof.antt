-- The value is lent for a new age.
use Rattle.atomic_table.proofs.Names.{◌≡◌, List, [], ◌∷◌, ◌++◌, length, refl, a_type, Val, inst_fn, SProp, emp, fsep, ‵, raw, ◌⊛◌, some, given, later, ◌$◌, ◌∵◌, !, qed, by, move, keep, split, fsplit, fjoin, fjoin3, fpack, pick, learn, use0, use1, await, rewrite, feq_i, stop, fld, of_opd, no_more, and_then, returns, enter, alloc_all, pass_all, free_all, look_at, get, get_in, sets, agg, sub, whole, tables, no, RattleType, owns, Valss, types_at, plain, Ptr, InBlock, nothing, heard, param, layouts, alive, Stays, stay_dropped, walk_of, Goes-dropped, fact, fact_i, of_list}
use base.Fml.{fhide, fshr_bor, Incl-refl}
use Rattle.atomic_table.proofs.Walks.{proved, leaves}
use Rattle.atomic_table.specs.Seated.{strip}
use Rattle.lock_place.specs.Held.{RoomId, room_owns, hold_owns}
use Rattle.lock_place.specs.contracts.room.Room as room
use Rattle.lock_place.specs.contracts.room.Hold as hold
use Rattle.lock_place.specs.contracts.strip.Strip as strips
use Rattle.lock_place.proofs.Fields.{strip_of, token_val, pair_of, Ptr-Good, strip_good, dealt_good, strip_told, RoomData, room_made, HoldData, hold_made}
use Rattle.lock_place.proofs.Items.{one_item}
use Rattle.lock_place.proofs.Ages.{strip_lies, deals}
use Rattle.lock_place.specs.contracts.room.Room.deal.{ended, clauses}
use Rattle.lock_place.specs.contracts.room.Room.deal.Key.{name as #self}
use Rattle.lock_place.proofs.room.Room.deal.Statement.{statement}
use Rattle.lock_place.proofs.room.Room.deal.Code as code

pub deal_spec : {M : Type 1} → statement M
deal_spec 𝓤 𝓛 𝓜 𝓡 wired T L =
    let H = 𝓛.H in let A = 𝓛.A in let 𝓣 = tables 𝓤 H 𝓜 𝓡 𝓡.env in let R : RattleType = param 0 T in let En = ended T in let c = clauses T 𝓛 𝓜.mem 𝓡.returns in
    let inst = layouts (a_type ∷ []) (T, tt) in let fn = inst_fn inst code.function in let closed = code.unfolded 𝓤 H 𝓜 𝓡 wired (T, tt) in
    let Row : RattleType = room.the_row R in let Hr : RattleType = hold.the_row R in let Ss : RattleType = strips.the_row R in
    let hs : Stays En.signature.params En.kept = (stay_dropped (plain (λ _. Ss)) no, tt) in
    proved 𝓛 En hs c 𝓜 𝓡 (Goes-dropped 𝓛 1 (plain (λ _. Ss)) no (λ κs x f. refl), tt) (#self inst) fn closed
    (λ κs. ((λ x. strip_of x.ptr ∷ []), tt)) (λ κs. ((λ x vs so. strip_told R x.ptr vs so.0), tt)) (λ κs qs bounds a gh are.
    let p : Ptr = a.0.ptr in let xs : List T.Denot = a.0.items in let u : Val = pair_of (strip_of p) token_val in
    let y : (walk_of 𝓛 En hs c).Ghost = ((κs, qs, bounds, a, (strip_of p ∷ [], tt)), gh) in let Post : Val → SProp 𝓤 = (walk_of 𝓛 En hs c).post y in
    qed 𝓛 ((raw (alive 𝓛 En.signature κs qs) ⊛ ‵ (owns (types_at En.signature.params κs) a y.0.4)) ∷ raw (fact 𝓤 _) ∷ raw (fact 𝓤 (length xs ≡ 1)) ∷ []) ∵
    keep ! (2 ∷ 0 ∷ []) $ heard ! (length xs ≡ 1) (λ long. let good = one_item xs long in let x : T.Denot = good.0 in split ! $ move ! (1 ∷ []) $ fsplit ! $ fsplit ! $ keep ! (1 ∷ 3 ∷ []) $
    rewrite ! 0 (λ (ys : List T.Denot). ‵ (strip R p ys)) good.1 refl $
    use1 𝓛 (given (InBlock p) (‵ (strip R p (x ∷ [])))) (strip_lies 𝓛 R p x) $ learn ! (λ fp.
    enter ! 𝓣.C 𝓣.Λ fn (strip_of p ∷ []) Post $ alloc_all ! (λ l. pass_all ! refl (strip_good p fp, tt) $
    use1 𝓛 (later (some (λ (z : RoomId). ‵ (room_owns R p z) ⊛ ‵ (hold_owns R z x)))) (deals 𝓛 R p x) $ await ! tt $ pick ! (λ z. split ! $
    let t : Row.Denot = record { at = p; room_id = z } in let r : Hr.Denot = record { marker = record {}; room_id = z; value = x } in let A₁ : Type 0 = (p ≡ p) × (z ≡ z) × (xs ≡ x ∷ []) in
    use0 𝓛 (‵ ((RoomData R).own_val (p, tt) (strip_of p ∷ []))) (room_made R 𝓛 p) $ fjoin ! $ move ! (1 ∷ []) $
    use0 𝓛 (‵ ((HoldData R).own_val (tt, tt) (token_val ∷ []))) (hold_made R 𝓛) $ fjoin ! $ nothing ! $ move ! (2 ∷ 1 ∷ 0 ∷ []) $ fjoin3 ! $ feq_i ! (List Val) (u ∷ []) (u ∷ []) refl $ fjoin ! $
    fpack ! (Valss (Row ∷ Hr ∷ [])) (λ vss. fsep (base.Fml.feq (List Val) (u ∷ []) (mir.Val.vstruct (of_list (vss.0 ++ (vss.1.0 ++ []))) ∷ [])) (owns (Row ∷ Hr ∷ []) (t, (r, tt)) vss)) (strip_of p ∷ [], (token_val ∷ [], tt)) $
    sets ! (of_opd ! (get_in ! (fld ! refl (stop !)) (sub ! 0 refl (whole !)))) refl (Ptr-Good p fp) $ sets ! (agg ! (and_then ! (get ! refl) (no_more !))) refl (strip_good p fp) $
    sets ! (agg ! (no_more !)) refl (tt, tt) $ sets ! (agg ! (and_then ! (get ! refl) (no_more !))) refl (tt, (tt, tt)) $
    sets ! (agg ! (and_then ! (get ! refl) (and_then ! (get ! refl) (no_more !)))) refl (dealt_good p fp) $
    use0 𝓛 (raw (fact 𝓤 A₁)) (fact_i 𝓤 A₁ (emp 𝓤) (refl, refl, good.1)) $ nothing ! $ nothing ! $ fjoin ! $
    returns ! (look_at ! 0 refl) $ free_all ! refl $ keep ! (3 ∷ 0 ∷ 2 ∷ 1 ∷ []) $ by ! (leaves 𝓛 En hs c y u (t, r) (tt, tt) (tt, tt)))))))

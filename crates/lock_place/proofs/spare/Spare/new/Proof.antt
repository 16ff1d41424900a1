-- A spare and its ticket, with no hold yet.
use Rattle.atomic_table.proofs.Names.{◌≡◌, ℕ, List, [], ◌∷◌, ◌++◌, refl, a_type, named, Val, vptr, inst_fn, SProp, emp, Fml, ftrue, fsep, flft, ‵, raw, ◌⊛◌, ◌$◌, ◌∵◌, !, qed, by, move, keep, split, join, fjoin, fjoin3, fpack, use0, feq_i, no_more, and_then, returns, enter, alloc_all, pass_all, free_all, look_at, get, sets, agg, tables, yes, RattleType, owns, Valss, types_at, plain, nothing, param, layouts, Stays, stay_dropped, walk_of, Goes-dropped, fact, fact_i, of_list, RefOf, shr_vals, shr_Tells}
use base.Fml.{feq}
use base.Stored.{gnum}
use Rattle.atomic_table.proofs.Walks.{proved, leaves}
use Rattle.std.proofs.Common.{None}
use Rattle.lock_place.specs.Held.{RoomId}
use Rattle.lock_place.specs.contracts.room.Room as room
use Rattle.lock_place.specs.contracts.spare.Spare as spare
use Rattle.lock_place.specs.contracts.spare.Ticket as ticket
use types.Tokens.{name_new}
use Rattle.lock_place.proofs.Fields.{token_val, pair_of, TicketData, ticket_made, SpareData, spare_made}
use Rattle.lock_place.specs.contracts.spare.Spare.new.{ended, clauses}
use Rattle.lock_place.specs.contracts.spare.Spare.new.Key.{name as #self}
use Rattle.lock_place.proofs.spare.Spare.new.Statement.{statement}
use Rattle.lock_place.proofs.spare.Spare.new.Code as code

pub new_spec : {M : Type 1} → statement M
new_spec 𝓤 𝓛 𝓜 𝓡 wired T L =
    let H = 𝓛.H in let A = 𝓛.A in let 𝓣 = tables 𝓤 H 𝓜 𝓡 𝓡.env in let R : RattleType = param 0 T in let En = ended T in let c = clauses T 𝓛 𝓜.mem 𝓡.returns in
    let inst = layouts (a_type ∷ []) (T, tt) in let fn = inst_fn inst code.function in let closed = code.unfolded 𝓤 H 𝓜 𝓡 wired (T, tt) in
    let Row : RattleType = room.the_row R in let Sp : RattleType = spare.the_row R in let Tk : RattleType = ticket.the_row in let u : Val = pair_of token_val token_val in
    let at = RefOf (0 ∷ []) tt (plain (λ _. Row)) (λ _. tt) in let hs : Stays En.signature.params En.kept = (stay_dropped at yes, tt) in
    proved 𝓛 En hs c 𝓜 𝓡 (Goes-dropped 𝓛 2 at yes (λ κs x f. refl), tt) (#self inst) fn closed
    (λ κs. (shr_vals, tt)) (λ κs. (shr_Tells (named 0) κs.0 Row, tt)) (λ κs qs bounds a gh are.
    let b : ℕ = a.0.ref_ptr.0 in let o : ℕ = a.0.ref_ptr.1 in let z : RoomId = a.0.now.room_id in let others : Fml = fsep (flft κs.1.0 qs.1.0) ftrue in
    let y : (walk_of 𝓛 En hs c).Ghost = ((κs, qs, bounds, a, (vptr b o ∷ [], tt)), gh) in let Post : Val → SProp 𝓤 = (walk_of 𝓛 En hs c).post y in
    qed 𝓛 (((‵ (flft κs.0 qs.0) ⊛ ‵ others) ⊛ ‵ (owns (types_at En.signature.params κs) a y.0.4)) ∷ raw ((c κs a).requires gh) ∷ []) ∵
    split ! $ split ! $ keep ! (0 ∷ 1 ∷ []) $ join ! $
    enter ! 𝓣.C 𝓣.Λ fn (vptr b o ∷ []) Post $ alloc_all ! (λ l. pass_all ! refl ((tt, tt), tt) $
    name_new ! tt (gnum 0) (λ d. fjoin ! $ let s : Sp.Denot = record { marker = record {}; room_id = z; deed = d; value = None } in let t : Tk.Denot = record { marker = record {}; deed = d } in let Told : Type 0 = (z ≡ z) × (d ≡ d) in
    use0 𝓛 (‵ (TicketData.own_val (tt, tt) (token_val ∷ []))) (ticket_made 𝓛) $ fjoin ! $ nothing ! $ use0 𝓛 (‵ ((SpareData R).own_val (tt, tt) (token_val ∷ []))) (spare_made R 𝓛) $ fjoin ! $
    nothing ! $ move ! (1 ∷ 2 ∷ 0 ∷ []) $ fjoin3 ! $ feq_i ! (List Val) (u ∷ []) (u ∷ []) refl $ fjoin ! $
    fpack ! (Valss (Sp ∷ Tk ∷ [])) (λ vss. fsep (feq (List Val) (u ∷ []) (mir.Val.vstruct (of_list (vss.0 ++ (vss.1.0 ++ []))) ∷ [])) (owns (Sp ∷ Tk ∷ []) (s, (t, tt)) vss)) (token_val ∷ [], (token_val ∷ [], tt)) $
    sets ! (agg ! (no_more !)) refl (tt, tt) $ sets ! (agg ! (and_then ! (get ! refl) (no_more !))) refl (tt, (tt, tt)) $
    sets ! (agg ! (no_more !)) refl (tt, tt) $ sets ! (agg ! (and_then ! (get ! refl) (no_more !))) refl (tt, (tt, tt)) $
    sets ! (agg ! (and_then ! (get ! refl) (and_then ! (get ! refl) (no_more !)))) refl (tt, ((tt, tt), ((tt, tt), tt))) $
    use0 𝓛 (raw (fact 𝓤 Told)) (fact_i 𝓤 Told (emp 𝓤) (refl, refl)) $ nothing ! $ nothing ! $ fjoin ! $
    returns ! (look_at ! 0 refl) $ free_all ! refl $ keep ! (3 ∷ 0 ∷ 2 ∷ 1 ∷ []) $ by ! (leaves 𝓛 En hs c y u (s, t) (tt, tt) (tt, tt)))))

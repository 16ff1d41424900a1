-- The ticket rests under another name.
use Rattle.atomic_table.proofs.Names.{◌≡◌, [], ◌∷◌, refl, a_type, Val, inst_fn, SProp, emp, ftrue, ‵, raw, ◌⊛◌, ◌$◌, ◌∵◌, !, qed, by, move, keep, split, fsplit, fjoin, use0, no_more, and_then, returns, enter, alloc_all, pass_all, free_all, look_at, get, sets, agg, tables, yes, RattleType, owns, types_at, plain, nothing, param, layouts, alive, Stays, stay_dropped, walk_of, Goes-dropped, fact, fact_i}
use Rattle.atomic_table.proofs.Walks.{proved, leaves}
use Rattle.lock_place.specs.contracts.spare.Ticket as ticket
use Rattle.lock_place.specs.contracts.rested.Rested as rested
use Rattle.lock_place.proofs.Fields.{ticket_told}
use Rattle.std.proofs.Common.{None}
use Rattle.lock_place.specs.Held.{RoomId}
use mathlib.Core.Bool.{true}
use Rattle.lock_place.proofs.Fields.{token_val, RestedData, rested_made}
use Rattle.lock_place.specs.contracts.spare.Ticket.rest.{ended, clauses}
use Rattle.lock_place.specs.contracts.spare.Ticket.rest.Key.{name as #self}
use Rattle.lock_place.proofs.spare.Ticket.rest.Statement.{statement}
use Rattle.lock_place.proofs.spare.Ticket.rest.Code as code

pub rest_spec : {M : Type 1} → statement M
rest_spec 𝓤 𝓛 𝓜 𝓡 wired T L =
    let H = 𝓛.H in let A = 𝓛.A in let 𝓣 = tables 𝓤 H 𝓜 𝓡 𝓡.env in let R : RattleType = param 0 T in let En = ended T in let c = clauses T 𝓛 𝓜.mem 𝓡.returns in
    let inst = layouts (a_type ∷ []) (T, tt) in let fn = inst_fn inst code.function in let closed = code.unfolded 𝓤 H 𝓜 𝓡 wired (T, tt) in
    let Re : RattleType = rested.the_row R in let Tk : RattleType = ticket.the_row in
    let hs : Stays En.signature.params En.kept = (stay_dropped (plain (λ _. Tk)) yes, tt) in
    proved 𝓛 En hs c 𝓜 𝓡 (Goes-dropped 𝓛 1 (plain (λ _. Tk)) yes (λ κs x f. refl), tt) (#self inst) fn closed
    (λ κs. ((λ _. token_val ∷ []), tt)) (λ κs. ((λ x vs so. ticket_told vs so.0), tt)) (λ κs qs bounds a gh are.
    let h : Tk.Denot = a.0 in let z : RoomId = record { block = 0; offset = 0; atom = 0; name = 0 } in let r : Re.Denot = record { marker = record {}; room_id = z; value = None; deed = h.deed; is_ticket = true } in let Told : Type 0 = (r.value ≡ None) × (h.deed ≡ h.deed) × (true ≡ true) in
    let y : (walk_of 𝓛 En hs c).Ghost = ((κs, qs, bounds, a, (token_val ∷ [], tt)), gh) in let Post : Val → SProp 𝓤 = (walk_of 𝓛 En hs c).post y in
    qed 𝓛 ((raw (alive 𝓛 En.signature κs qs) ⊛ ‵ (owns (types_at En.signature.params κs) a y.0.4)) ∷ raw (fact 𝓤 _) ∷ ‵ ftrue ∷ []) ∵
    keep ! (0 ∷ []) $ (split ! $ move ! (1 ∷ []) $ fsplit ! $ fsplit ! $ keep ! (1 ∷ 3 ∷ []) $
    enter ! 𝓣.C 𝓣.Λ fn (token_val ∷ []) Post $ alloc_all ! (λ l. pass_all ! refl ((tt, (tt, tt)), tt) $
    use0 𝓛 (‵ ((RestedData R).own_val (tt, tt) (token_val ∷ []))) (rested_made R 𝓛) $ fjoin ! $
    sets ! (agg ! (no_more !)) refl (tt, tt) $ sets ! (agg ! (and_then ! (get ! refl) (no_more !))) refl (tt, (tt, tt)) $
    use0 𝓛 (raw (fact 𝓤 Told)) (fact_i 𝓤 Told (emp 𝓤) (refl, refl, refl)) $ nothing ! $ nothing ! $ fjoin ! $
    returns ! (look_at ! 0 refl) $ free_all ! refl $ keep ! (3 ∷ 0 ∷ 2 ∷ 1 ∷ []) $ by ! (leaves 𝓛 En hs c y token_val r (tt, tt) (tt, tt)))))

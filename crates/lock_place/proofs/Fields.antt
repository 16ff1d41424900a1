-- The data fields of a `Strip`, a `Room` and a `Hold`. Assumes `Logic`.
use Rattle.std.proofs.Common.{◌≡◌, T, List, [], ◌∷◌, ◌++◌, refl, ap, ◌∙◌}
use seplogic.Ra.Ura.{Ura}
use mir.Syntax.{Ty, ty_ptr, ty_struct, tcons, tnil}
use mir.Val.{Val, vstruct, vcons, vnil, of_list, has_ty, WT}
use base.Logic.{ent, emp}
use types.Logic.{Logic, sem}
use denote.RattleType.{RattleType}
use denote.Laws.{Is}
use denote.Opens.{Opens}
use denote.Copied.{Struct-Copied}
use denote.RawPtr.{Ptr, block_ptr, null_ptr, ptr_val, InBlock}
use denote.Shadow.{makes_shadow}
use denote.Struct.Laws.{RawPtr-copy}
use denote.Struct.Struct.{Struct}
use denote.Struct.Owning.{shape}
use Rattle.lock_place.specs.contracts.strip.Strip as strip
use Rattle.lock_place.specs.contracts.room.Room as room
use Rattle.lock_place.specs.contracts.room.Hold as hold
use Rattle.lock_place.specs.contracts.room.Parked as parked
use Rattle.lock_place.specs.contracts.rested.Rested as rested
use Rattle.lock_place.specs.contracts.spare.Spare as spare
use Rattle.lock_place.specs.contracts.spare.Ticket as ticket

abbrev pub strip_of : Ptr → Val
strip_of p = vstruct (vcons (ptr_val p) vnil)

abbrev pub token_val : Val
token_val = vstruct (vcons (vstruct vnil) vnil)

abbrev pub pair_of : Val → Val → Val
pair_of u v = vstruct (vcons u (vcons v vnil))

abbrev strip_ty : Ty
strip_ty = ty_struct [] (tcons ty_ptr tnil)

pub Ptr-Good : (p : Ptr) → InBlock p → T (has_ty ty_ptr (ptr_val p)) × WT (ptr_val p)
Ptr-Good (block_ptr b o) i = (tt, tt)
Ptr-Good null_ptr i = absurd i

pub strip_good : (p : Ptr) → InBlock p → T (has_ty strip_ty (strip_of p)) × WT (strip_of p)
strip_good (block_ptr b o) i = (tt, (tt, tt))
strip_good null_ptr i = absurd i

pub dealt_good : (p : Ptr) → InBlock p → T (has_ty (ty_struct [] (tcons strip_ty (tcons (ty_struct [] (tcons (ty_struct [] tnil) tnil)) tnil))) (pair_of (strip_of p) token_val)) × WT (pair_of (strip_of p) token_val)
dealt_good (block_ptr b o) i = (tt, ((tt, tt), ((tt, tt), tt)))
dealt_good null_ptr i = absurd i

abbrev pub TicketData : RattleType
TicketData = Struct (shape ticket.the_type)

pub ticket_told : (vs : List Val) → Is TicketData (tt, tt) vs → vs ≡ token_val ∷ []
ticket_told vs is = is.1.0 ∙ ap (λ (ws : List Val). vstruct (of_list (ws ++ [])) ∷ []) is.1.1.0.1.0

pub ticket_made : {M : Type 1} {𝓤 : Ura M} (𝓛 : Logic 𝓤) → ent 𝓤 (emp 𝓤) (sem 𝓛 (TicketData.own_val (tt, tt) (token_val ∷ [])))
ticket_made 𝓛 = makes_shadow 𝓛 (TicketData.own_val (tt, tt) (token_val ∷ [])) (λ vss. (tt, ((λ uss. (tt, tt)), tt))) ((vstruct vnil ∷ [], tt), (refl, ((tt, (refl, tt)), tt)))

module _ (R : RattleType) where
  abbrev pub StripData : RattleType
  StripData = Struct (shape (strip.the_type R))

  pub strip_told : (p : Ptr) (vs : List Val) → Is StripData (p, tt) vs → vs ≡ strip_of p ∷ []
  strip_told p vs is = is.1.0 ∙ ap (λ (ws : List Val). vstruct (of_list (ws ++ [])) ∷ []) is.1.1.0

  pub strip_made : {M : Type 1} {𝓤 : Ura M} (𝓛 : Logic 𝓤) (p : Ptr) → ent 𝓤 (emp 𝓤) (sem 𝓛 (StripData.own_val (p, tt) (strip_of p ∷ [])))
  strip_made 𝓛 p = makes_shadow 𝓛 (StripData.own_val (p, tt) (strip_of p ∷ [])) (λ vss. (tt, (tt, tt))) ((ptr_val p ∷ [], tt), (refl, (refl, tt)))

  abbrev pub RoomData : RattleType
  RoomData = Struct (shape (room.the_type R))

  pub room_told : (p : Ptr) (vs : List Val) → Is RoomData (p, tt) vs → vs ≡ strip_of p ∷ []
  room_told p vs is = is.1.0 ∙ ap (λ (ws : List Val). vstruct (of_list (ws ++ [])) ∷ []) is.1.1.0

  pub room_made : {M : Type 1} {𝓤 : Ura M} (𝓛 : Logic 𝓤) (p : Ptr) → ent 𝓤 (emp 𝓤) (sem 𝓛 (RoomData.own_val (p, tt) (strip_of p ∷ [])))
  room_made 𝓛 p = makes_shadow 𝓛 (RoomData.own_val (p, tt) (strip_of p ∷ [])) (λ vss. (tt, (tt, tt))) ((ptr_val p ∷ [], tt), (refl, (refl, tt)))

  pub room_opens : {M : Type 1} {𝓤 : Ura M} (𝓛 : Logic 𝓤) → Opens 𝓛 RoomData
  room_opens {M} {𝓤 = 𝓤} 𝓛 = (Struct-Copied 𝓛 (shape (room.the_type R)) (refl, tt) (RawPtr-copy.copied M 𝓤 𝓛, tt)).opens

  abbrev pub HoldData : RattleType
  HoldData = Struct (shape (hold.the_type R))

  pub hold_told : (vs : List Val) → Is HoldData (tt, tt) vs → vs ≡ token_val ∷ []
  hold_told vs is = is.1.0 ∙ ap (λ (ws : List Val). vstruct (of_list (ws ++ [])) ∷ []) is.1.1.0.1.0

  pub hold_made : {M : Type 1} {𝓤 : Ura M} (𝓛 : Logic 𝓤) → ent 𝓤 (emp 𝓤) (sem 𝓛 (HoldData.own_val (tt, tt) (token_val ∷ [])))
  hold_made 𝓛 = makes_shadow 𝓛 (HoldData.own_val (tt, tt) (token_val ∷ [])) (λ vss. (tt, ((λ uss. (tt, tt)), tt))) ((vstruct vnil ∷ [], tt), (refl, ((tt, (refl, tt)), tt)))

  abbrev pub ParkedData : RattleType
  ParkedData = Struct (shape (parked.the_type R))

  pub parked_told : (vs : List Val) → Is ParkedData (tt, tt) vs → vs ≡ token_val ∷ []
  parked_told vs is = is.1.0 ∙ ap (λ (ws : List Val). vstruct (of_list (ws ++ [])) ∷ []) is.1.1.0.1.0

  pub parked_made : {M : Type 1} {𝓤 : Ura M} (𝓛 : Logic 𝓤) → ent 𝓤 (emp 𝓤) (sem 𝓛 (ParkedData.own_val (tt, tt) (token_val ∷ [])))
  parked_made 𝓛 = makes_shadow 𝓛 (ParkedData.own_val (tt, tt) (token_val ∷ [])) (λ vss. (tt, ((λ uss. (tt, tt)), tt))) ((vstruct vnil ∷ [], tt), (refl, ((tt, (refl, tt)), tt)))

  abbrev pub SpareData : RattleType
  SpareData = Struct (shape (spare.the_type R))

  pub spare_made : {M : Type 1} {𝓤 : Ura M} (𝓛 : Logic 𝓤) → ent 𝓤 (emp 𝓤) (sem 𝓛 (SpareData.own_val (tt, tt) (token_val ∷ [])))
  spare_made 𝓛 = makes_shadow 𝓛 (SpareData.own_val (tt, tt) (token_val ∷ [])) (λ vss. (tt, ((λ uss. (tt, tt)), tt))) ((vstruct vnil ∷ [], tt), (refl, ((tt, (refl, tt)), tt)))

  abbrev pub RestedData : RattleType
  RestedData = Struct (shape (rested.the_type R))

  pub rested_told : (vs : List Val) → Is RestedData (tt, tt) vs → vs ≡ token_val ∷ []
  rested_told vs is = is.1.0 ∙ ap (λ (ws : List Val). vstruct (of_list (ws ++ [])) ∷ []) is.1.1.0.1.0

  pub rested_made : {M : Type 1} {𝓤 : Ura M} (𝓛 : Logic 𝓤) → ent 𝓤 (emp 𝓤) (sem 𝓛 (RestedData.own_val (tt, tt) (token_val ∷ [])))
  rested_made 𝓛 = makes_shadow 𝓛 (RestedData.own_val (tt, tt) (token_val ∷ [])) (λ vss. (tt, ((λ uss. (tt, tt)), tt))) ((vstruct vnil ∷ [], tt), (refl, ((tt, (refl, tt)), tt)))

-- The machine values of a `Lease` and of a `SendLease`.
use Rattle.std.proofs.Common.{◌≡◌, ℕ, ◌^◌, ◌<◌, T, List, [], ◌∷◌, ◌++◌, ap, ◌∙◌, lit<, w64}
use mir.Syntax.{Ty, ty_ptr, ty_int, ty_struct, tcons, tnil}
use mir.Val.{Val, vint, vstruct, vcons, vnil, of_list, has_ty, WT}
use denote.RattleType.{RattleType}
use denote.Laws.{Is}
use denote.Param.Send.{IsSend, Frees}
use denote.RawPtr.{Ptr, block_ptr, null_ptr, ptr_val}
use Rattle.core.specs.Mem.Slots.{lease_ptr, lease_len}
use Rattle.core.specs.declared.alloc.Allocator.{Ghosts}
use Rattle.core.specs.contracts.slots.Lease as lease
use Rattle.core.proofs.slots.Leases.{lease_val}
use Rattle.lock_place.specs.contracts.send_lease.SendLease as right

abbrev pub right_val : Ptr → ℕ → Val
right_val p n = vstruct (vcons (lease_val p n) vnil)

abbrev lease_ty : Ty
lease_ty = ty_struct [] (tcons ty_ptr (tcons (ty_int w64) (tcons (ty_struct [] tnil) tnil)))

pub lease_good : (p : Ptr) (n : ℕ) → n < 2 ^ 64 → T (has_ty lease_ty (lease_val p n)) × WT (lease_val p n)
lease_good (block_ptr b o) n f = (tt, (tt, (record { fits = f }, (tt, tt))))
lease_good null_ptr n f = (tt, (record { fits = lit< tt }, (record { fits = f }, (tt, tt))))

pub right_good : (p : Ptr) (n : ℕ) → n < 2 ^ 64 → T (has_ty (ty_struct [] (tcons lease_ty tnil)) (right_val p n)) × WT (right_val p n)
right_good (block_ptr b o) n f = (tt, ((tt, (record { fits = f }, (tt, tt))), tt))
right_good null_ptr n f = (tt, ((record { fits = lit< tt }, (record { fits = f }, (tt, tt))), tt))

module _ (R Z : RattleType) (g : Ghosts Z.Denot) where
  pub lease_told : (d : (lease.the_row R Z g).Denot) (vs : List Val) → Is (lease.the_row R Z g) d vs → (vs ≡ lease_val (lease_ptr d) (lease_len d) ∷ []) × (lease_len d < 2 ^ 64)
  lease_told d vs so = let is = so.0 in let p : Ptr = lease_ptr d in let n : ℕ = lease_len d in (
    is.1.0 ∙ ap (λ (ws : List Val). vstruct (of_list (ws ++ (is.0.1.0 ++ (is.0.1.1.0 ++ [])))) ∷ []) is.1.1.0
        ∙ ap (λ (ws : List Val). vstruct (of_list (ptr_val p ∷ (ws ++ (is.0.1.1.0 ++ [])))) ∷ []) is.1.1.1.0.0
        ∙ ap (λ (ws : List Val). vstruct (of_list (ptr_val p ∷ vint w64 n ∷ (ws ++ []))) ∷ []) is.1.1.1.1.0.1.0,
    is.1.1.1.0.1,
  )

  pub right_told : (d : (right.the_row R Z g).Denot) (vs : List Val) → Is (right.the_row R Z g) d vs → (vs ≡ right_val (lease_ptr d.lease) (lease_len d.lease) ∷ []) × (lease_len d.lease < 2 ^ 64)
  right_told d vs so = let is = so.0 in let inner = lease_told d.lease is.0.0 is.1.1.0 in (is.1.0 ∙ ap (λ (ws : List Val). vstruct (of_list (ws ++ [])) ∷ []) inner.0, inner.1)

  pub right_send : Frees g g.dealloc_token → IsSend (right.the_row R Z g)
  right_send f = record { owned = λ d vs. ((λ vss. (tt, (((λ uss. (tt, (tt, ((tt, tt), ((λ wss. (tt, tt)), tt))))), f.frees _ _ _), tt))), tt); leaving = λ k x vs. (tt, tt) }

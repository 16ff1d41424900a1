-- Solo polls in turn: each that passes the free lock over gives way.
use Rattle.world_mutex.proofs.Prelude.{◌≡◌, ◌≢◌, ℕ, ◌⊎◌, inl, inr, Some, None, refl, Answer, Call, Inputs, one_takes, GivesWay, PassesOver, IsBounded, IsSound, IsAwake, IsFreeAndWanted, accounts_of, World}
use Rattle.world_base.specs.Bounds.{GaveWay}
use Rattle.world_base.proofs.of_table.Bounds.{first_marked}
use Rattle.world_mutex.specs.Bound.{Takes}
use Rattle.world_mutex.proofs.laws.WorldLaws.{keeps_promise}

abbrev IsFree : World → Type 0
IsFree w = w.state.holder ≡ None

passed : (w : World) (p : ℕ) (a : Answer) (v : World) → v.state.holder ≢ Some p → Takes w p a v ⊎ GivesWay w p a v → IsFree v × GaveWay p w.state.starved w.entries v.state.starved v.entries
passed w p a v not_taken (inl takes) = absurd (not_taken takes.holder)
passed w p a v not_taken (inr gives) = (gives.free, gives.gave_way)

gives : (w : World) (p : ℕ) (inputs : Inputs) (a : Answer) (v : World) → IsFree w → PassesOver w p inputs a v → IsFree v × GaveWay p w.state.starved w.entries v.state.starved v.entries
gives w p inputs a v free over = passed w p a v over.not_taken (((keeps_promise (accounts_of w) w p Call.Poll inputs over.whole.more a v over.whole.runs over.whole.ended).solo refl over.solo free).takes_or_gives_way over.unrefused)

pub bounded : (w : World) → IsSound w → IsAwake w → IsFreeAndWanted w → IsBounded w
bounded w sound awake wanted =
    let found = first_marked w.entries sound.in_order (awake.marked wanted) in
    record {
      some_marked = (found.0, found.1, awake.pending found.0 found.2);
      one_takes = one_takes PassesOver (λ v. v.state.starved) (λ v. v.entries) IsFree gives w wanted.0 wanted.1 awake.starved;
    }

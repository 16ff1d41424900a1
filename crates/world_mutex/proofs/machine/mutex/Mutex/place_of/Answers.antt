-- The place is the concealed machine's.
use Rattle.world_mutex.proofs.Prelude.{ap, sym, ◌∙◌, slice_get, revealed, place_behind, Lock, Mutex}
use Rattle.world_mutex.proofs.machine.mutex.Mutex.place_of.Goals as goal

pub returns : goal.returns
returns c =
    c.place_of.ensures
    ∙ (ap (λ (l : Lock). slice_get l.places c.args.party) (sym (revealed c.self.inside.machine))
    ∙ ap (λ (m : Mutex). place_behind m.behind c.args.party) c.self.view_is)

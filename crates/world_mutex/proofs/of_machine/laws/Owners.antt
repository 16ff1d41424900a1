-- What an action does to the list: one list function of its party at most, so that the entries are told by it.
use Rattle.world_mutex.proofs.Prelude.{◌≡◌, ℕ, Bool, sym, ◌∙◌, ap, without, is_marked_at, is_party, Queue, joins, asks, leaves, notifies, chosen, OneAtMost, unchanged, done, Action, Found, Done, NoMemory, Yes, No, Word, OnParties, OnList, CanDo}

module _ (p : ℕ) (memory : Bool) (s t : Queue) where
  -- the action as the parties see it
  pub on_parties : (a : Action) (f : Found) → OnList p memory a f s t → OnParties p a f s.entries t.entries
  on_parties Action.Join Done l = ap (λ s. s.entries) l.1
  on_parties Action.Join NoMemory l = ap (λ s. s.entries) l.1
  on_parties Action.Join _ l = absurd l
  on_parties Action.Ask Yes l = (l.0, ap (λ s. s.entries) l.1)
  on_parties Action.Ask No l = (l.0, ap (λ s. s.entries) l.1)
  on_parties Action.Ask _ l = absurd l
  on_parties Action.Leave Done l = ap (λ s. s.entries) l
  on_parties Action.Leave _ l = absurd l
  on_parties Action.Notify Done l = ap (λ s. s.entries) l
  on_parties Action.Notify _ l = absurd l
  on_parties _ f l = ap (λ s. s.entries) l

  pub parties_kept : (a : Action) (f : Found) → OnList p memory a f s t → t.parties ≡ s.parties
  parties_kept Action.Join Done l = ap (λ s. s.parties) l.1
  parties_kept Action.Join NoMemory l = ap (λ s. s.parties) l.1
  parties_kept Action.Join _ l = absurd l
  parties_kept Action.Ask Yes l = ap (λ s. s.parties) l.1
  parties_kept Action.Ask No l = ap (λ s. s.parties) l.1
  parties_kept Action.Ask _ l = absurd l
  parties_kept Action.Leave Done l = ap (λ s. s.parties) l
  parties_kept Action.Leave _ l = absurd l
  parties_kept Action.Notify Done l = ap (λ s. s.parties) l
  parties_kept Action.Notify _ l = absurd l
  parties_kept _ f l = ap (λ s. s.parties) l

  -- who asks and is marked leaves
  pub one_at_most : (a : Action) (f : Found) (w : Word) → OnParties p a f s.entries t.entries → CanDo p a w s → OneAtMost p s.entries t.entries
  one_at_most Action.Join Done w o can = done joins tt o
  one_at_most Action.Join _ w o can = unchanged o
  one_at_most Action.Ask Yes w o can = done asks can.1 (o.1 ∙ sym (chosen (is_marked_at (is_party p) s.entries) (without (is_party p) s.entries) s.entries o.0))
  one_at_most Action.Ask _ w o can = unchanged o.1
  one_at_most Action.Leave f w o can = done leaves can.1 o
  one_at_most Action.Notify f w o can = done (notifies 1) tt o
  one_at_most _ f w o can = unchanged o

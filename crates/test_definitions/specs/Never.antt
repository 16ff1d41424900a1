-- What no definition may allow.

-- There is no such run.
abbrev pub Never : Type 0 → Type 0
Never R = R → ⊥

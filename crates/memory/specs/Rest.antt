-- What a memory has besides the words of its homes, and what it means that an operation leaves it as it was.

pub record Rest (M : Type 0) : Type 1 where
  pub Stays : M → M → Type 0
  pub stays : (m : M) → Stays m m

-- there is nothing, or nothing is said of it
abbrev pub no_rest : {M : Type 0} → Rest M
no_rest = record { Stays = λ _ _. Unit {0}; stays = λ _. tt }

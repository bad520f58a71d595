-- The kinds of members, by their numbers.
use Rattle.std.specs.Prelude.{◌≡◌, ℕ, List, ◌++◌, codes, decimal, Result, MatchResult}
use Rattle.clauses.specs.declared.kind.UnknownKind.{UnknownKind}

-- r is the kind that has the number n, or says that n is the number of no kind
abbrev pub Named : {K : Type 0} → (K → ℕ) → (ℕ → Type 0) → ℕ → Result K UnknownKind → Type 0
Named number Unnamed n r = MatchResult r (λ k. number k ≡ n) (λ e. (e.0 ≡ n) × Unnamed n)

abbrev pub unknown_text : UnknownKind → List ℕ
unknown_text e = codes "no kind has number " ++ decimal e.0

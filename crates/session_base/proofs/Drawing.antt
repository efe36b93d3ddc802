-- What is drawn, as it is told.
use Rattle.std.proofs.Common.{◌≡◌, ◌+◌, ◌∙◌, ℕ, suc, List, [], ◌∷◌, ◌++◌, take}
use Rattle.std.proofs.Common.{drop, length, refl, ap, sym, subst, arith}
use Rattle.std.proofs.Math.Seq.{take-append_seam}
use Rattle.std.specs.Prelude.{IfSome, None, Option, Some}
use Rattle.kdb_ports.specs.Told.{StandsIn}
use Rattle.session_base.specs.Draws.{bytes_of}

same_bytes : (bytes : List ℕ) (stream : ℕ → ℕ) → StandsIn bytes stream → bytes ≡ bytes_of (length bytes) stream
unfolding bytes_of
same_bytes [] stream h = refl
same_bytes (b ∷ bytes) stream h =
    let first : b ≡ stream 0 = h 0 (omega arith) in
    let others : bytes ≡ bytes_of (length bytes) (λ k. stream (1 + k)) =
    same_bytes bytes (λ k. stream (1 + k))
    (λ k lt. let e : 1 + k ≡ suc k = omega arith in h (suc k) (omega arith) ∙ ap stream (sym e)) in
    λ i. first i ∷ others i

pub stands_as : (bytes : List ℕ) (n : ℕ) (stream : ℕ → ℕ) → length bytes ≡ n → StandsIn bytes stream
    → bytes ≡ bytes_of n stream
stands_as bytes n stream e h = subst (λ (k : ℕ). bytes ≡ bytes_of k stream) e (same_bytes bytes stream h)

-- a buffer of so many bytes, whose front was filled
pub drawn : (told : Option (ℕ → ℕ)) (into items : List ℕ) (len n : ℕ) → len ≡ n → length into ≡ n
    → IfSome told (StandsIn into)
    → IfSome told (λ stream. take len (into ++ drop (length into) items) ≡ bytes_of n stream)
drawn None into items len n long whole h = tt
drawn (Some stream) into items len n long whole h =
    ap (λ (k : ℕ). take k (into ++ drop (length into) items)) (long ∙ sym whole)
    ∙ take-append_seam into (drop (length into) items) ∙ stands_as into n stream whole h

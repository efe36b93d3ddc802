-- The two kept states of a key.
use Rattle.std.specs.Prelude.{ℕ, List}
use Rattle.krb_hmac.specs.Hmac.{key_block, masked}

pub record States (H : Type 0) : Type 0 where
  pub inner : H
  pub outer : H

-- the inner state has taken in the key's block under the inner pad, the outer one under the outer pad
pub record IsKeyed {H : Type 0} (holds : H → List ℕ → Type 0) (hash : List ℕ → List ℕ) (block : ℕ) (states : States H)
    (key : List ℕ) : Type 0 where
  pub inner : holds states.inner (masked 0x36 (key_block hash block key))
  pub outer : holds states.outer (masked 0x5c (key_block hash block key))

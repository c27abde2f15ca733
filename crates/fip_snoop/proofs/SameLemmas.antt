-- Bytes that are the same.
use Rattle.std.proofs.Common.{◌≡◌, ℕ, true, List}
use Rattle.std.proofs.lemmas.Slice.Eq.{bytes_eq-Decides}
use Rattle.fab_config.specs.Settings.{same_bytes}

pub same_is : (l m : List ℕ) → same_bytes l m ≡ true → l ≡ m
same_is l m e = (bytes_eq-Decides l m).0 e

pub is_same : (l m : List ℕ) → l ≡ m → same_bytes l m ≡ true
is_same l m e = (bytes_eq-Decides l m).1 e

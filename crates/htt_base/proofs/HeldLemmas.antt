-- What one entry more changes of what is held.
use Rattle.std.proofs.Common.{ℕ, ◌≡◌, ◌≢◌, List, ◌∷◌, Some, Bool, true, false, nat_eq, string_bytes, reverse, find, refl, sym, ◌∙◌}
use Rattle.std.specs.Cmp.Lexicographic.{pointwise, bytes_decides}
use Rattle.std.proofs.lemmas.List.{reverse-append}
use Rattle.std.specs.Prelude.{Ok, Err}
use Rattle.htt_base.specs.declared.outside.WriteStop.{WriteStop}
use Rattle.htt_base.specs.Outside.{IsWritten}
use Rattle.htt_base.specs.MemFiles.{NamedBytes, contents_of, has_name, Appends}

find_first : (p : NamedBytes → Bool) (entry : NamedBytes) (rest : List NamedBytes) → p entry ≡ true → find p (entry ∷ rest) ≡ Some entry
find_first p entry rest h = rw h refl

find_rest : (p : NamedBytes → Bool) (entry : NamedBytes) (rest : List NamedBytes) → p entry ≡ false → find p (entry ∷ rest) ≡ find p rest
find_rest p entry rest h = rw h refl

pointwise_differs : (xs ys : List ℕ) → xs ≢ ys → pointwise nat_eq xs ys ≡ false
pointwise_differs xs ys h = go (pointwise nat_eq xs ys) (bytes_decides xs ys).0
  where
    go : (b : Bool) → (b ≡ true → xs ≡ ys) → b ≡ false
    go true k = absurd (h (k refl))
    go false k = refl

contents_of-here : (old new : List NamedBytes) (name bytes : List ℕ) → Appends old new name bytes → contents_of new name ≡ Some bytes
contents_of-here old new name bytes a =
    let q : has_name name a.0 ≡ true = (bytes_decides (string_bytes a.0.0) name).1 a.2 in
    rw a.1 (rw reverse-append (rw (find_first (has_name name) a.0 (reverse old) q) (rw a.3 refl)))

contents_of-others : (old new : List NamedBytes) (name bytes n : List ℕ) → Appends old new name bytes → n ≢ name → contents_of new n ≡ contents_of old n
contents_of-others old new name bytes n a h =
    let q : has_name n a.0 ≡ false = pointwise_differs (string_bytes a.0.0) n (λ e. h (sym e ∙ a.2)) in
    rw a.1 (rw reverse-append (rw (find_rest (has_name n) a.0 (reverse old) q) refl))

-- an entry more is a write that is done
pub written_done : (old new : List NamedBytes) (name bytes : List ℕ)
    → Appends old new name bytes
    → IsWritten (contents_of old) (contents_of new) name bytes (Ok tt)
written_done old new name bytes a = record {
  done = contents_of-here old new name bytes a;
  no_memory = λ n. cc;
  others = λ n h. contents_of-others old new name bytes n a h;
}

-- no entry more is a write that stopped
pub written_stopped : (old new : List NamedBytes) (name bytes : List ℕ) (stop : WriteStop)
    → new ≡ old
    → IsWritten (contents_of old) (contents_of new) name bytes (Err stop)
written_stopped old new name bytes stop e = record {
  done = tt;
  no_memory = λ n. rw e refl;
  others = λ n h. rw e refl;
}

-- Putting bytes at the end, one after the other.
use Rattle.std.proofs.Common.{◌≡◌, ℕ, List, ◌++◌, ap, ◌∙◌, append_assoc}

pub three_puts : (old one two three a b c : List ℕ) → one ≡ old ++ a → two ≡ one ++ b → three ≡ two ++ c → three ≡ old ++ (a ++ (b ++ c))
three_puts old one two three a b c h1 h2 h3 =
    h3 ∙ ap (λ (t : List ℕ). t ++ c) (h2 ∙ ap (λ (t : List ℕ). t ++ b) h1)
    ∙ append_assoc (old ++ a) b c ∙ append_assoc old a (b ++ c)

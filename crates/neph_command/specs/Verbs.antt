-- The table of commands: the keyword of each, and what stands behind it.
use Rattle.std.specs.Prelude.{ℕ, Bool, false, ◌==◌, List, [], ◌∷◌, codes, Option, find}
use Rattle.neph_command.specs.Words.{equals}
use Rattle.neph_command.specs.Kind.{Kind}
use Rattle.neph_command.specs.Kind.{Kind as kind}
use Rattle.neph_command.specs.declared.verb.Verb.{Verb}
use Rattle.neph_command.specs.declared.verb.Verb.TheVariants as verb

abbrev pub verbs : List Verb
verbs = verb.W ∷ verb.R ∷ verb.Map ∷ verb.Unmap ∷ verb.Jump ∷ verb.JChild ∷ verb.JFail
    ∷ verb.Exit ∷ verb.Free ∷ verb.Clone ∷ verb.Ungrant ∷ verb.Gmap ∷ verb.Gunmap ∷ verb.Hr ∷ verb.Hw ∷ []

abbrev pub keyword : Verb → List ℕ
keyword verb.W = codes "w"
keyword verb.R = codes "r"
keyword verb.Map = codes "map"
keyword verb.Unmap = codes "unmap"
keyword verb.Jump = codes "jump"
keyword verb.JChild = codes "jchild"
keyword verb.JFail = codes "jfail"
keyword verb.Exit = codes "exit"
keyword verb.Free = codes "free"
keyword verb.Clone = codes "clone"
keyword verb.Ungrant = codes "ungrant"
keyword verb.Gmap = codes "gmap"
keyword verb.Gunmap = codes "gunmap"
keyword verb.Hr = codes "hr"
keyword verb.Hw = codes "hw"

abbrev pub kinds_of : Verb → List Kind
kinds_of verb.W = kind.addr ∷ kind.bytes ∷ []
kinds_of verb.R = kind.addr ∷ kind.len ∷ []
kinds_of verb.Map = kind.vpn ∷ kind.pfn ∷ kind.mode ∷ []
kinds_of verb.Unmap = kind.vpn ∷ []
kinds_of verb.Jump = kind.label ∷ []
kinds_of verb.JChild = kind.label ∷ []
kinds_of verb.JFail = kind.label ∷ []
kinds_of verb.Exit = []
kinds_of verb.Free = []
kinds_of verb.Clone = []
kinds_of verb.Ungrant = kind.reference ∷ []
kinds_of verb.Gmap = kind.dom ∷ kind.reference ∷ []
kinds_of verb.Gunmap = kind.handle ∷ []
kinds_of verb.Hr = kind.handle ∷ kind.offset ∷ kind.len ∷ []
kinds_of verb.Hw = kind.handle ∷ kind.offset ∷ kind.bytes ∷ []

-- the verb whose keyword a word is
abbrev pub verb_of : List ℕ → Option Verb
verb_of word = find (λ v. equals word (keyword v)) verbs

-- A command with so many words behind its keyword isn't built yet: `clone` with a number.
abbrev pub is_unbuilt : Verb → ℕ → Bool
is_unbuilt verb.Clone n = n == 1
is_unbuilt _ n = false

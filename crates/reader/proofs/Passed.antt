-- A `Reader` passed on from call to call: what the contracts of `new` and `next` ask and say, for a walk by hand that calls both.
-- In a local of a body MIR erases the lifetime of the struct's type, so a value is shown to have the type at `erased`: what the struct owns does not say the lifetime's name.
use mathlib.Core.Path.{◌≡◌}
use Prim.Native.Nat.{ℕ}
use mathlib.Core.List.{List, [], ◌∷◌}
use seplogic.Ra.Ura.{Ura}
use mir.Syntax.{erased}
use mir.Val.{Val}
use base.Logic.{SProp, ent, snd∗, ex_e}
use base.Fml.{Lft, Share, ftrue, flft}
use prog.Memory.{Memory}
use prog.Routine.{Routine}
use types.Logic.{Logic, sem}
use contract.Lifetimes.{Lfts}
use contract.Monad.{Fun, fact}
use types.Kit.{‵, ◌⊛◌, ⋆, ◌$◌, ◌∵◌, !, qed, move, join, fjoin, frame, done}
use denote.RattleType.{RattleType}
use denote.Ref.{Bor, NamedLft}
use denote.Signature.{named_lft}
use denote.Steps.{nothing}
use denote.Triple.Statement.{Contract}
use denote.Triple.Spec.{triple_of}
use denote.Triple.Clauses.{ensured, lasts}
use Rattle.reader.specs.Reading.{step_of}
use Rattle.reader.specs.declared.Reader.{Reader}
use Rattle.std.specs.Prelude.{Result}
use Rattle.octets.specs.declared.refusal.Refusal.{Refusal}
use Rattle.reader.specs.Answers.{answer_of}
use Rattle.reader.specs.declared.Step.{Step}
use Rattle.reader.specs.contracts.Reader as T
use Rattle.reader.specs.contracts.new as new
use Rattle.reader.specs.contracts.next as next

-- the struct's type, over the signature's lifetimes, and as a local of a body has it
abbrev pub B : Lfts 1 → RattleType
B κs = T.the_row (named_lft 1 0 tt κs)

abbrev pub local : Lft → NamedLft
local κ = record { mir = erased; lft = κ }

module _ {M : Type 1} {𝓤 : Ura M} (𝓛 : Logic 𝓤) (mem : Memory → SProp 𝓤) (run : Routine → Fun 𝓤) where
  abbrev pub New : Contract 𝓤
  New = triple_of 𝓛 new.signature (new.spec 𝓛 mem run)

  abbrev pub Next : Contract 𝓤
  Next = triple_of 𝓛 next.signature (next.spec 𝓛 mem run)

  pub new_said : (κ : Lft) (s : Bor (List ℕ)) (r : Reader) → ent 𝓤 (ensured 𝓛 new.ended (new.clauses 𝓛 mem run) (κ, tt) (s, tt) tt r) (fact 𝓤 ((r.params ≡ s) × (r.at ≡ 0)))
  new_said κ s r = ex_e 𝓤 _ (λ ws. snd∗ 𝓤 (sem 𝓛 (lasts new.ended (κ, tt) (s, tt) ws)) (fact 𝓤 ((r.params ≡ s) × (r.at ≡ 0))))

  -- the call of `next`, at the struct d with the machine value u
  abbrev pub to_next : Lft → Share → Reader → Val → Next.Ghost
  to_next κ q d u = (((κ, tt), (q, tt), tt, (d, tt), (u ∷ [], tt)), tt)

  pub goes_next : (κ : Lft) (q : Share) (d : Reader) (u : Val) → ent 𝓤 (⋆ 𝓛 (‵ ((B (κ, tt)).own_val d (u ∷ [])) ∷ (‵ (flft κ q) ⊛ ‵ ftrue) ∷ [])) (Next.pre (to_next κ q d u))
  goes_next κ q d u = qed 𝓛 (‵ ((B (κ, tt)).own_val d (u ∷ [])) ∷ (‵ (flft κ q) ⊛ ‵ ftrue) ∷ []) ∵ nothing ! $ move ! (1 ∷ 0 ∷ []) $ fjoin ! $ move ! (1 ∷ 0 ∷ []) $ join ! $ frame ! $ done !

  pub next_said : (κ : Lft) (d : Reader) (t : Result Step Refusal) → ent 𝓤 (ensured 𝓛 next.ended (next.clauses 𝓛 mem run) (κ, tt) (d, tt) tt t) (fact 𝓤 (answer_of t ≡ step_of d.params.now d.at))
  next_said κ d t = ex_e 𝓤 _ (λ ws. snd∗ 𝓤 (sem 𝓛 (lasts next.ended (κ, tt) (d, tt) ws)) (fact 𝓤 (answer_of t ≡ step_of d.params.now d.at)))

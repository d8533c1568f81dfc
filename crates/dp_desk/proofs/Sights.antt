-- What changes one channel of a desk, and nothing else.
use Rattle.std.proofs.Common.{◌≡◌, refl, ◌∙◌, ap}
use Rattle.dp_desk.specs.Channel.{Channel}
use Rattle.dp_desk.specs.Sight.{Sight, input, output, with_input, with_output}
use Rattle.dp_desk.specs.declared.desk.In.{In}
use Rattle.dp_desk.specs.declared.desk.In.TheVariants.{Model, Log}
use Rattle.dp_desk.specs.declared.desk.Out.{Out}
use Rattle.dp_desk.specs.declared.desk.Out.TheVariants.{Answer, First, Second}

pub with_output_same : (out : Out) (s : Sight) → s ≡ with_output out (output out s) s
with_output_same Answer s = refl
with_output_same First s = refl
with_output_same Second s = refl

pub with_output_twice : (out : Out) (a b : Channel) (s : Sight) → with_output out a (with_output out b s) ≡ with_output out a s
with_output_twice Answer a b s = refl
with_output_twice First a b s = refl
with_output_twice Second a b s = refl

pub output-with_output : (out : Out) (a : Channel) (s : Sight) → output out (with_output out a s) ≡ a
output-with_output Answer a s = refl
output-with_output First a s = refl
output-with_output Second a s = refl

pub with_input_same : (which : In) (s : Sight) → s ≡ with_input which (input which s) s
with_input_same Model s = refl
with_input_same Log s = refl

pub with_input_twice : (which : In) (a b : Channel) (s : Sight) → with_input which a (with_input which b s) ≡ with_input which a s
with_input_twice Model a b s = refl
with_input_twice Log a b s = refl

pub input-with_input : (which : In) (a : Channel) (s : Sight) → input which (with_input which a s) ≡ a
input-with_input Model a s = refl
input-with_input Log a s = refl

-- a change of an output leaves the inputs and the names
pub input-with_output : (which : In) (out : Out) (a : Channel) (s : Sight) → input which (with_output out a s) ≡ input which s
input-with_output Model Answer a s = refl
input-with_output Model First a s = refl
input-with_output Model Second a s = refl
input-with_output Log Answer a s = refl
input-with_output Log First a s = refl
input-with_output Log Second a s = refl

pub output-with_input : (out : Out) (which : In) (a : Channel) (s : Sight) → output out (with_input which a s) ≡ output out s
output-with_input Answer Model a s = refl
output-with_input Answer Log a s = refl
output-with_input First Model a s = refl
output-with_input First Log a s = refl
output-with_input Second Model a s = refl
output-with_input Second Log a s = refl

pub names-with_output : (out : Out) (a : Channel) (s : Sight) → (with_output out a s).names ≡ s.names
names-with_output Answer a s = refl
names-with_output First a s = refl
names-with_output Second a s = refl

pub names-with_input : (which : In) (a : Channel) (s : Sight) → (with_input which a s).names ≡ s.names
names-with_input Model a s = refl
names-with_input Log a s = refl

-- two calls on one output change that one
pub same_but_output : (out : Out) (was mid now : Sight) → mid ≡ with_output out (output out mid) was →
    now ≡ with_output out (output out now) mid → now ≡ with_output out (output out now) was
same_but_output out was mid now one two =
    two ∙ ap (λ s. with_output out (output out now) s) one ∙ with_output_twice out (output out now) (output out mid) was

-- two calls on one input change that one
pub same_but_input : (which : In) (was mid now : Sight) → mid ≡ with_input which (input which mid) was →
    now ≡ with_input which (input which now) mid → now ≡ with_input which (input which now) was
same_but_input which was mid now one two =
    two ∙ ap (λ s. with_input which (input which now) s) one ∙ with_input_twice which (input which now) (input which mid) was

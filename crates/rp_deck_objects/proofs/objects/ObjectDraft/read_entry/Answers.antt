use Rattle.std.proofs.Common.{◌≡◌, ℕ, arith, refl}
use Rattle.std.proofs.lemmas.Grind.{common_steps}
use Rattle.rp_object.specs.declared.program.Profile.{Profile}
use Rattle.rp_object.specs.declared.program.Profile.TheVariants.{Ravenscar, Jorvik}
use Rattle.rp_deck_objects.specs.declared.objects.Head.TheVariants.{Entry}
use Rattle.rp_deck_objects.specs.ObjectLimits.{HeadKeeps}
use Rattle.rp_deck_objects.specs.Objects.{entry_line}
use Rattle.rp_deck_objects.proofs.objects.ObjectDraft.read_entry.Goals as goal

keeps_if_single : (profile : Profile) (barrier longest : ℕ) → (profile ≡ Ravenscar → longest ≡ 1) → HeadKeeps profile (Entry barrier longest)
keeps_if_single Ravenscar barrier longest single = single refl
keeps_if_single Jorvik barrier longest single = tt

pub returns-clause-object : goal.returns-clause-object
returns-clause-object c =
    c.begin.ensures.object c.args.profile c.requires (record {
      room = omega arith;
      new = c.in_ok-name.ensures.new;
      fits = λ limits counted. (c.in_ok-barrier.ensures.counted limits counted, c.in_ok-longest.ensures.in_range.0, c.in_ok-longest.ensures.in_range.1);
      keeps = keeps_if_single c.args.profile c.in_ok-barrier.barrier c.in_ok-longest.longest c.in_ok-longest.ensures.single;
    })

pub returns-then-len-most_entries-clause-read : goal.returns-then-len-most_entries-clause-read
unfolding entry_line
returns-then-len-most_entries-clause-read c = grind (arith, common_steps)

pub returns-in_err-name-clause-read : goal.returns-in_err-name-clause-read
unfolding entry_line
returns-in_err-name-clause-read c = grind (arith, common_steps)

pub returns-in_err-take-clause-read : goal.returns-in_err-take-clause-read
unfolding entry_line
returns-in_err-take-clause-read c = grind (arith, common_steps)

pub returns-then-not-is_word-clause-read : goal.returns-then-not-is_word-clause-read
unfolding entry_line
returns-then-not-is_word-clause-read c = grind (arith, common_steps)

pub returns-in_err-take-2-clause-read : goal.returns-in_err-take-2-clause-read
unfolding entry_line
returns-in_err-take-2-clause-read c = grind (arith, common_steps)

pub returns-in_err-barrier-clause-read : goal.returns-in_err-barrier-clause-read
unfolding entry_line
returns-in_err-barrier-clause-read c = grind (arith, common_steps)

pub returns-in_err-longest-clause-read : goal.returns-in_err-longest-clause-read
unfolding entry_line
returns-in_err-longest-clause-read c = grind (arith, common_steps)

pub returns-clause-read : goal.returns-clause-read
unfolding entry_line
returns-clause-read c = grind (arith, common_steps)

use Rattle.sigstore_tuf_client.proofs.client.run_step.Goals as goal

pub returns-in-Seed : goal.returns-in-Seed
returns-in-Seed g c = rw c.in-Seed.is (c.reseed.ensures (g.R.Repository.seen c.args.repo.now))

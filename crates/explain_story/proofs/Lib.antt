-- From what each part promises to the reply.
mod StoryLemmas
